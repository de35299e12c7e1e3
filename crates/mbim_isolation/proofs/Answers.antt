-- Who gets an answer of the modem.
use Rattle.std.proofs.Common.{◌≡◌, ◌≢◌, ℕ, ◌≤◌, Bool, true, false, not, ◌&&◌, ◌||◌, ◌==◌, nat_le, if◌then◌else◌, List, [], ◌∷◌, length, map, refl, ap, sym, ◌∙◌, subst, ⊎_elim, arith, All, Contains, Option, Some, None}
use Rattle.std.specs.List.{AllByRecursion}
use Rattle.std.proofs.lemmas.Bool.{eqb-true, eq-eqb, and_parts, true≢false, false_from_ne_true}
use Rattle.std.proofs.lemmas.Bool.Decides.{nat_tests}
use Rattle.std.proofs.lemmas.List.{length-drop}
use Rattle.std.proofs.lemmas.List.Elements.{All-contains, All-from_recursion}
use Rattle.mbim_frame.specs.declared.kind.MessageKind.TheVariants.{CommandDone, OpenDone, FunctionError, IndicateStatus}
use Rattle.mbim_frame.specs.Head.{is_kind, number_of}
use Rattle.mbim_frame.specs.Fragment.{body_of}
use Rattle.mbim_frame.specs.Bodies.{is_done, is_indication}
use Rattle.proxy_history.specs.Events.{Event}
use Rattle.proxy_history.specs.Items.{Item, ModemSays}
use Rattle.proxy_history.specs.Facts.{Fact, Request, EventBegan, Answered, Late, Stray}
use Rattle.proxy_history.specs.Connections.{is_present}
use Rattle.proxy_history.specs.Requests.{in_use, pending, has_request, is_pending}
use Rattle.proxy_history.specs.View.{Response, entry_if, view}
use Rattle.proxy_history.specs.Rendering.{render, put}
use Rattle.proxy_history.specs.Wording.{text_behind}
use Rattle.proxy_history.specs.Coming.{AreSound}
use Rattle.proxy_history.specs.History as proxy
use Rattle.proxy_history.proofs.Walk as walk
use Rattle.proxy_history.proofs.Walk.{each_message}
use Rattle.proxy_history.proofs.Coming.{joins_or_modem_takes}
use Rattle.proxy_history.proofs.Sound.{in_use_from_pending, forwarded_from_in_use, waits}
use Rattle.proxy_history.proofs.SoundLaws.{in_use_differ}
use Rattle.proxy_history.proofs.Found.{found_is}
use Rattle.proxy_history.proofs.Given.{same_number, contained_has, none_left, first_is}
use Rattle.proxy_history.proofs.Noted.{noted_view, noted_in_use}
use Rattle.proxy_history.proofs.Standing.{fit_behind}
use Rattle.mbim_proxy.specs.Setup.{Setup, the_space}
use Rattle.mbim_proxy.specs.Known.{Known, Ask}
use Rattle.mbim_proxy.specs.Step.{blank, view_of, known_now}
use Rattle.mbim_proxy.specs.Text.{mbim_wording, note}
use Rattle.mbim_proxy.specs.ModemStates.{is_own, is_own_open}
use Rattle.mbim_proxy.specs.FromModem.{Heard, IsDone, IsOpenDone, IsError, IsIndication, IsNeither, heard_if, heard_as, end_opening, end_opening_by, opening_status, is_for, is_answered_by, first_answered_by, answer_or_late, respond, hear_as, hear_modem}
use Rattle.mbim_proxy.specs.History.{mbim_protocol, history}
use Rattle.mbim_proxy.proofs.Walk.{Asks, orderly}
use Rattle.mbim_state.specs.Core.{HasNumbers}
use Rattle.mbim_state.proofs.Regular.{Regular, regular_more, new_by, histories_are_regular}
use Rattle.mbim_state.proofs.Numbers.{IsPlaced, asked_in_use}
use Rattle.mbim_state.proofs.Commands.{IsCommandOf, command_of, ask_for}
use Rattle.mbim_state.proofs.Texts.{answer_of_blank, answer_same}
use Rattle.mbim_isolation.specs.Laws.{bytes_for, facts_before, is_reply, due, IsDelivered, is_awaited}

-- ---- the facts before a message ----

-- what is known of the history in the midst of an event that lets nobody in
pub regular_items : (s : Setup) (items : List Item) (events : List Event) → AllByRecursion (λ item. joins_or_modem_takes item ≡ false) items → AreSound (mbim_protocol s) events → Regular s (proxy.add_all (mbim_protocol s) items (EventBegan ∷ history s events))
regular_items s items events others coming =
    let begun : Regular s (EventBegan ∷ history s events) = regular_more s EventBegan (history s events) tt tt tt (histories_are_regular s events coming) in
    walk.kept_by_items (mbim_protocol s) (Asks s) (orderly s) (Regular s) (λ item. joins_or_modem_takes item ≡ false)
    (λ item other fact before follows may asked held. regular_more s fact before follows asked (new_by s item fact before other may) held)
    items (EventBegan ∷ history s events) others begun.sound begun

pub regular_before : (s : Setup) (events : List Event) (earlier : List (List ℕ)) → AreSound (mbim_protocol s) events → Regular s (facts_before s events earlier)
regular_before s events earlier coming = regular_items s (map (λ m. ModemSays m) earlier) events (each_message (λ item. joins_or_modem_takes item ≡ false) (λ m. ModemSays m) earlier (λ m. refl)) coming

-- ---- a message that is an answer ----

-- it has a whole head
long_by : (done opened error indicated whole short : Bool) (body : List ℕ) (m : List ℕ) → is_done body ≡ whole → (length m == 16) ≡ short → body_of m ≡ body
    → is_reply (if done then heard_if whole IsDone else if opened then heard_if short IsOpenDone else if error then heard_if short IsError else if indicated then heard_if (is_indication body) IsIndication else IsNeither) ≡ true → 12 ≤ length m
long_by true opened error indicated true short body m is_whole is_short is_body reply =
    let at_least : nat_le 28 (length body) ≡ true = (and_parts (nat_le 28 (length body)) _ is_whole).0 in
    let long : 28 ≤ length body = grind (arith, nat_tests, at_least) in
    let same : length body ≡ length (body_of m) = ap length (sym is_body) in
    omega (arith, long, same, length-drop 20 m)
long_by true opened error indicated false short body m is_whole is_short is_body reply = absurd (cc)
long_by false true error indicated whole true body m is_whole is_short is_body reply = let long : length m ≡ 16 = eqb-true (length m) 16 is_short in omega (arith, long)
long_by false true error indicated whole false body m is_whole is_short is_body reply = absurd (cc)
long_by false false true indicated whole true body m is_whole is_short is_body reply = let long : length m ≡ 16 = eqb-true (length m) 16 is_short in omega (arith, long)
long_by false false true indicated whole false body m is_whole is_short is_body reply = absurd (cc)
long_by false false false true whole short body m is_whole is_short is_body reply = elim (is_indication body) as (λ b. is_reply (heard_if b IsIndication) ≡ true → 12 ≤ length m) [ true ↦ λ e. absurd (cc) | false ↦ λ e. absurd (cc) ] reply
long_by false false false false whole short body m is_whole is_short is_body reply = absurd (cc)

pub long : (m : List ℕ) → is_reply (heard_as m) ≡ true → 12 ≤ length m
long m reply = long_by (is_kind CommandDone m) (is_kind OpenDone m) (is_kind FunctionError m) (is_kind IndicateStatus m) (is_done (body_of m)) (length m == 16) (body_of m) m refl refl refl reply

responds : (s : Setup) (heard : Heard) (m : List ℕ) (past : List Fact) → is_reply heard ≡ true → hear_as s heard m past ≡ respond s (first_answered_by heard m (in_use past)) m past
responds s IsDone m past reply = refl
responds s IsOpenDone m past reply = refl
responds s IsError m past reply = refl
responds s IsIndication m past reply = absurd (cc)
responds s IsNeither m past reply = absurd (cc)

pub other_is : (c d : ℕ) → c ≢ d → (d == c) ≡ false
other_is c d differs = false_from_ne_true (d == c) (λ e. differs (sym (eqb-true d c e)))

-- a fact for one connection is in no other's view
pub others_same : (s : Setup) (r : Request) (m : List ℕ) (past : List Fact) (c : ℕ) → (r.conn == c) ≡ false → view_of c (note s (Answered r m) past) ≡ view_of c past
unfolding view
others_same s r m past c other = noted_view s.limits (mbim_wording s) c (Answered r m) past ∙ ap (λ (b : Bool). entry_if b (Response r.place (blank m)) (view_of c past)) other

module _ (s : Setup) (within : HasNumbers s) (events : List Event) (earlier : List (List ℕ)) (coming : AreSound (mbim_protocol s) events) (m : List ℕ) (reply : is_reply (heard_as m) ≡ true) where
  abbrev past : List Fact
  past = facts_before s events earlier

  regular : Regular s past
  regular = regular_before s events earlier coming

  -- all requests are in the one space, so that a number tells a request
  placed : (r : Request) → Contains (in_use past) r → r.space ≡ the_space
  placed r at = All-contains IsPlaced (in_use past) r (All-from_recursion IsPlaced (in_use past) (asked_in_use s IsPlaced (λ r before is. is.space) past regular.asked)) at

  one_is_answered : (q r : Request) → Contains (in_use past) q → Contains (in_use past) r → is_answered_by (heard_as m) m q ≡ true → is_answered_by (heard_as m) m r ≡ true → q ≡ r
  one_is_answered q r at_q at_r answers_q answers_r =
      let number_q : q.number ≡ number_of m = eqb-true q.number (number_of m) (and_parts (q.number == number_of m) (is_for (heard_as m) q) answers_q).0 in
      let number_r : r.number ≡ number_of m = eqb-true r.number (number_of m) (and_parts (r.number == number_of m) (is_for (heard_as m) r) answers_r).0 in
      same_number (in_use past) q r (in_use_differ s.limits within past regular.sound) at_q at_r (placed q at_q ∙ sym (placed r at_r)) (number_q ∙ sym number_r)

  -- the request still waits, so this is what the modem's message does
  module _ (r : Request) (at : Contains (pending past) r) (answers : is_answered_by (heard_as m) m r ≡ true) where
    pub replied : hear_modem s m past ≡ end_opening_by s r (opening_status m) (note s (Answered r m) past)
    replied =
        let used : Contains (in_use past) r = in_use_from_pending past r at in
        let found : first_answered_by (heard_as m) m (in_use past) ≡ Some r = first_is (is_answered_by (heard_as m) m) (in_use past) r (λ q at_q is. one_is_answered q r at_q used is answers) used answers in
        responds s (heard_as m) m past reply
        ∙ ap (λ (o : Option Request). respond s o m past) found
        ∙ ap (λ (b : Bool). answer_or_late s b r m past) (contained_has (pending past) r at)

    module _ (client : r.conn ≢ 0) where
      command : IsCommandOf s past r
      command = ⊎_elim (λ (own : r.conn ≡ 0). absurd (client own)) (λ (is : IsCommandOf s past r). is) (command_of s past r regular at)

      pub sender_there : is_present r.conn past ≡ true
      sender_there = command.sender

      abbrev known : Known
      known = known_now s r.conn past

      abbrev ask : Ask
      ask = ask_for s past r

      abbrev asked : Ask
      asked = record { place = 0; number = number_of r.message; uuid = []; cid = 0 }

      abbrev after : List Fact
      after = note s (Answered r m) past

      heard : hear_modem s m past ≡ after
      heard = replied ∙ ap (λ (b : Bool). if b then end_opening s (opening_status m) after else after) command.command

      sender : bytes_for s r.conn after ≡ put s.limits.outbox (due s r m past) (bytes_for s r.conn past)
      unfolding view render
      sender =
          ap (render s.limits.outbox (text_behind (mbim_wording s))) (noted_view s.limits (mbim_wording s) r.conn (Answered r m) past)
          ∙ ap (λ (b : Bool). render s.limits.outbox (text_behind (mbim_wording s)) (entry_if b (Response r.place (blank m)) (view_of r.conn past))) (eq-eqb r.conn r.conn refl)
          ∙ ap (λ (bytes : List ℕ). put s.limits.outbox bytes (bytes_for s r.conn past)) (answer_of_blank m (long m reply) known ask ∙ answer_same known ask asked command.number m)

      none_left_then : has_request r (in_use (Answered r m ∷ past)) ≡ false
      unfolding in_use
      none_left_then = none_left r (in_use past)

      delivered : IsDelivered s r m past after
      delivered = record {
        sender = sender;
        full = λ over. false_from_ne_true (is_present r.conn after) (λ still. true≢false (sym over ∙ fits r.conn still));
        others = λ c differs. ap (render s.limits.outbox (text_behind (mbim_wording s))) (others_same s r m past c (other_is c r.conn differs));
        once = ap (has_request r) (noted_in_use s.limits (mbim_wording s) (Answered r m) past) ∙ none_left_then;
      }
        where
          fits : (c : ℕ) → is_present c after ≡ true → (bytes_for s c after).is_over ≡ false
          fits c there =
              subst (λ (facts : List Fact). is_present c facts ≡ true → (bytes_for s c facts).is_over ≡ false) heard
              (fit_behind (mbim_protocol s) (Asks s) (orderly s) events earlier m c) there

      pub answers_have_one_receiver : IsDelivered s r m past (hear_modem s m past)
      answers_have_one_receiver = subst (IsDelivered s r m past) (sym heard) delivered

-- ---- other answers ----

module _ (s : Setup) (events : List Event) (earlier : List (List ℕ)) (m : List ℕ) (c : ℕ) (client : c ≢ 0) where
  abbrev before : List Fact
  before = facts_before s events earlier

  abbrev Same : List Fact → Type 0
  Same after = bytes_for s c after ≡ bytes_for s c before

  stray : Same (Stray ∷ before)
  unfolding view
  stray = refl

  late : (r : Request) → Same (Late r ∷ before)
  unfolding view
  late r = refl

  -- an answer to a request of the proxy itself that isn't the one to open
  quiet : (r : Request) → is_own r ≡ true → is_own_open r ≡ false → Same (answer_or_late s true r m before)
  quiet r own other =
      ap (λ (b : Bool). bytes_for s c (let after : List Fact = note s (Answered r m) before in if b then end_opening s (opening_status m) after else after)) other
      ∙ ap (render s.limits.outbox (text_behind (mbim_wording s))) (others_same s r m before c (ap (λ (d : ℕ). d == c) (eqb-true r.conn 0 own) ∙ other_is c 0 client))

  unawaited : (own opens : Bool) → (true && (not own || opens)) ≡ false → (own ≡ true) × (opens ≡ false)
  unawaited true false none = (refl, refl)
  unawaited true true none = absurd (cc)
  unawaited false opens none = absurd (cc)

  module _ (heard : Heard) (none : All (λ r. (is_answered_by heard m r && is_awaited r) ≡ false) (pending before)) where
    answered : (r : Request) → Contains (in_use before) r → is_answered_by heard m r ≡ true → (b : Bool) → is_pending r before ≡ b → Same (answer_or_late s b r m before)
    answered r at answers true is =
        let isnt = All-contains (λ (q : Request). (is_answered_by heard m q && is_awaited q) ≡ false) (pending before) r none (waits s.limits before r (walk.sound_items (mbim_protocol s) (Asks s) (orderly s) (map (λ m. ModemSays m) earlier) (EventBegan ∷ history s events) (walk.begun_is_sound (mbim_protocol s) (Asks s) (orderly s) events)) (forwarded_from_in_use before r at) is) in
        let parts = unawaited (is_own r) (is_own_open r) (sym (ap (λ (b : Bool). b && is_awaited r) answers) ∙ isnt) in
        quiet r parts.0 parts.1
    answered r at answers false is = late r

    responded : (o : Option Request) → first_answered_by heard m (in_use before) ≡ o → Same (respond s o m before)
    responded None is = stray
    responded (Some r) is = let found = found_is (is_answered_by heard m) (in_use before) r is in answered r found.0 found.1 (is_pending r before) refl

  by_heard : (heard : Heard) → heard ≢ IsIndication → All (λ r. (is_answered_by heard m r && is_awaited r) ≡ false) (pending before) → Same (hear_as s heard m before)
  by_heard IsDone other none = responded IsDone none (first_answered_by IsDone m (in_use before)) refl
  by_heard IsOpenDone other none = responded IsOpenDone none (first_answered_by IsOpenDone m (in_use before)) refl
  by_heard IsError other none = responded IsError none (first_answered_by IsError m (in_use before)) refl
  by_heard IsIndication other none = absurd (other refl)
  by_heard IsNeither other none = stray

  pub other_answers_have_none : heard_as m ≢ IsIndication → All (λ r. (is_answered_by (heard_as m) m r && is_awaited r) ≡ false) (pending before) → Same (hear_modem s m before)
  other_answers_have_none other none = by_heard (heard_as m) other none
