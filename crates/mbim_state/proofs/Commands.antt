-- Of a request that waits its sender's own view tells what is noted with its number.
use Rattle.std.proofs.Common.{◌≡◌, ◌⊎◌, ℕ, ◌+◌, ◌/◌, ◌%◌, ◌^◌, ◌<◌, ◌≤◌, Bool, true, false, not, cond, ◌||◌, ◌==◌, List, [], ◌∷◌, ◌++◌, length, filter, get_or, inl, inr, refl, ap, sym, ◌∙◌, subst, ⊎_elim, arith, if◌then◌else◌, All, AllPairs, Contains}
use Rattle.std.specs.List.{AllByRecursion}
use Rattle.std.proofs.lemmas.Bool.{eq-eqb, eqb-true, true≢false, not-true, false_from_ne_true}
use Rattle.std.proofs.lemmas.Bool.Decides.{nat_tests}
use Rattle.std.proofs.lemmas.List.Elements.{All-contains, All-from_recursion, recursion_from_All}
use Rattle.std.proofs.lemmas.List.Kept.{AllPairs-filter}
use Rattle.std.proofs.lemmas.List.Quantifiers.{all_pairs_push}
use Rattle.kit_bytes.proofs.Lists.{all_weaker, all_passing, all_push}
use Rattle.mbim_frame.specs.declared.kind.MessageKind.TheVariants.{Open, Command}
use Rattle.mbim_frame.specs.Kinds.{kind_number}
use Rattle.mbim_frame.specs.Numbers.{u32_bytes}
use Rattle.mbim_frame.specs.Head.{is_kind, number_of}
use Rattle.mbim_frame.specs.Fragment.{body_of}
use Rattle.mbim_frame.specs.Bodies.{uuid_of, cid_of}
use Rattle.mbim_frame.specs.Writing.{unsplit}
use Rattle.mbim_frame.proofs.Numbers.{u32_at-bytes, u32_at-behind}
use Rattle.proxy_history.specs.Facts.{NotAdmitted, BadStream, NoRoom, Leaving, Fact, Request, Verdict, Own, Share, Foreign, Away, Full, Forward, Ready, Waits, Admitted, Ended, Judged, Taken, Forwarded, Answered, IdHeld, Late, Expired, Aborted, Indicated, OpeningEnded, SessionsClosed, Reset, ModemLost}
use Rattle.proxy_history.specs.Connections.{present, contains}
use Rattle.proxy_history.specs.Requests.{pending}
use Rattle.proxy_history.specs.View.{Entry, Said, Response, Refused, Indication, OpenedWith, Shut, Taking, End, HeldId, NoAnswer, view, entry_if, said_count}
use Rattle.proxy_history.specs.Wording.{told_by}
use Rattle.proxy_history.specs.Sound.{IsParty}
use Rattle.proxy_history.proofs.Lists.{Contains-cons_cases, ne_apart}
use Rattle.proxy_history.proofs.SoundLaws.{waiting_are_parties}
use Rattle.proxy_state.proofs.InUse.{head_all, tail_pairs}
use Rattle.mbim_proxy.specs.Setup.{Setup}
use Rattle.mbim_proxy.specs.Known.{Known, Ask, ask_at, without_ask}
use Rattle.mbim_proxy.specs.OwnReplies.{OwnReply, Silent, Wrong, NotOpened, Closes, Refuses, Configures, Subscribes, own_reply}
use Rattle.mbim_proxy.specs.Step.{blank, command_with, ask_of, with_message, with_reply, step, known_from, view_of, known_now}
use Rattle.mbim_proxy.specs.ModemStates.{is_own_open}
use Rattle.mbim_proxy.specs.Asked.{CarriesItsCommand, IsAsked}
use Rattle.mbim_state.proofs.Regular.{Regular}

-- ---- a command's message ----

-- of a number only its four bytes are written
same_bytes : (n : ℕ) → u32_bytes (n % 2 ^ 32) ≡ u32_bytes n
same_bytes n =
    let first : n % 2 ^ 32 % 256 ≡ n % 256 = omega arith in
    let second : n % 2 ^ 32 / 256 % 256 ≡ n / 256 % 256 = omega arith in
    let third : n % 2 ^ 32 / 256 / 256 % 256 ≡ n / 256 / 256 % 256 = omega arith in
    let fourth : n % 2 ^ 32 / 256 / 256 / 256 % 256 ≡ n / 256 / 256 / 256 % 256 = omega arith in
    rw (first, second, third, fourth) refl

module _ (n : ℕ) (body : List ℕ) where
  abbrev message : List ℕ
  message = unsplit (kind_number Command) n body

  -- it reads as it was written
  abbrev front : List ℕ
  front = u32_bytes (kind_number Command) ++ u32_bytes (12 + (8 + length body))

  abbrev behind : List ℕ
  behind = (u32_bytes 1 ++ u32_bytes 0) ++ body

  number_again : u32_bytes (number_of message) ≡ u32_bytes n
  number_again =
      let below : n % 2 ^ 32 < 2 ^ 32 = omega arith in
      let read : number_of (front ++ u32_bytes (n % 2 ^ 32) ++ behind) ≡ n % 2 ^ 32 = u32_at-behind front (u32_bytes (n % 2 ^ 32) ++ behind) 8 0 refl ∙ u32_at-bytes (n % 2 ^ 32) behind below in
      ap (λ (bytes : List ℕ). u32_bytes (number_of (front ++ bytes ++ behind))) (sym (same_bytes n)) ∙ ap u32_bytes read ∙ same_bytes n

  body_again : body_of message ≡ body
  body_again = refl

-- ---- what a client's view tells of a command ----

-- a number is the same as far as it is written
record IsTold (r : Request) (ask : Ask) : Type 0 where
  number : u32_bytes ask.number ≡ u32_bytes (number_of r.message)
  uuid : ask.uuid ≡ uuid_of (body_of r.message)
  cid : ask.cid ≡ cid_of (body_of r.message)

-- a message that completes it was sent, and the modem may answer it
record IsHeld (known : Known) (r : Request) : Type 0 where
  command : is_own_open r ≡ false
  place : r.place ≤ known.sent
  told : IsTold r (ask_at r.place known.asks)

held_as : (known later : Known) (r : Request) → known.sent ≤ later.sent → ask_at r.place later.asks ≡ ask_at r.place known.asks → IsHeld known r → IsHeld later r
held_as known later r more same H = record { command = H.command; place = let within = H.place in omega arith; told = subst (IsTold r) (sym same) H.told }

ask_elsewhere : (place other : ℕ) (asks : List Ask) → (other == place) ≡ false → ask_at place (without_ask other asks) ≡ ask_at place asks
ask_elsewhere place other [] differs = refl
ask_elsewhere place other (ask ∷ asks) differs =
    let rest = ask_elsewhere place other asks differs in
    let step : (gone : Bool) → (ask.place == other) ≡ gone → ask_at place (without_ask other (ask ∷ asks)) ≡ ask_at place (ask ∷ asks) =
    λ gone. elim gone as (λ gone. (ask.place == other) ≡ gone → ask_at place (without_ask other (ask ∷ asks)) ≡ ask_at place (ask ∷ asks)) [
      | true ↦ λ e.
          let elsewhere : (ask.place == place) ≡ false = ap (λ (n : ℕ). n == place) (eqb-true ask.place other e) ∙ differs in
          ap (λ (b : Bool). ask_at place (cond (not b) (ask ∷ without_ask other asks) (without_ask other asks))) e ∙ rest
          ∙ sym (ap (λ (b : Bool). if b then ask else ask_at place asks) elsewhere)
      | false ↦ λ e.
          ap (λ (b : Bool). ask_at place (cond (not b) (ask ∷ without_ask other asks) (without_ask other asks))) e
          ∙ ap (λ (a : Ask). if ask.place == place then ask else a) rest
    ]
    in step (ask.place == other) refl

held_without : (known : Known) (other : ℕ) (r : Request) → (other == r.place) ≡ false → IsHeld known r → IsHeld (record known { asks = without_ask other known.asks }) r
held_without known other r differs H = held_as known (record known { asks = without_ask other known.asks }) r (omega arith) (ask_elsewhere r.place other known.asks differs) H

module _ (s : Setup) where
  same_behind_reply : (reply : OwnReply) (known : Known) → ((with_reply reply known).sent ≡ known.sent) × ((with_reply reply known).asks ≡ known.asks)
  same_behind_reply Silent known = (refl, refl)
  same_behind_reply (Wrong code) known = (refl, refl)
  same_behind_reply (NotOpened status) known = (refl, refl)
  same_behind_reply Closes known = (refl, refl)
  same_behind_reply (Refuses command status) known = (refl, refl)
  same_behind_reply (Configures command) known = (refl, refl)
  same_behind_reply (Subscribes command list) known = (refl, refl)

  sent_more : (known : Known) (m : List ℕ) (verdict : Verdict) → (step s known (Said m verdict)).sent ≡ known.sent + 1
  sent_more known m Own = (same_behind_reply (own_reply s known m) (with_message s m known)).0
  sent_more known m Share = refl
  sent_more known m Foreign = refl
  sent_more known m Away = refl
  sent_more known m Full = refl
  sent_more known m Forward = refl
  sent_more known m Ready = refl
  sent_more known m Waits = refl

  -- a further message changes nothing of those before it
  held_sent : (known : Known) (m : List ℕ) (verdict : Verdict) (r : Request) → IsHeld known r → IsHeld (step s known (Said m verdict)) r
  held_sent known m verdict r H = held_as known (step s known (Said m verdict)) r (let more = sent_more known m verdict in omega arith) (same verdict) H
    where
      same : (verdict : Verdict) → ask_at r.place (step s known (Said m verdict)).asks ≡ ask_at r.place known.asks
      same Own = ap (ask_at r.place) (same_behind_reply (own_reply s known m) (with_message s m known)).1
      same Share = refl
      same Foreign = refl
      same Away = refl
      same Full = refl
      same Forward = let within = H.place in let later : (known.sent + 1 == r.place) ≡ false = grind (arith, nat_tests, within) in ap (λ (b : Bool). if b then ask_of s known m else ask_at r.place known.asks) later
      same Ready = refl
      same Waits = refl

  sent_is : (entries : List Entry) → (known_from s entries).sent ≡ said_count entries
  unfolding told_by
  sent_is [] = refl
  sent_is (Said m verdict ∷ entries) = sent_more (known_from s entries) m verdict ∙ ap (λ (n : ℕ). n + 1) (sent_is entries)
  sent_is (_ ∷ entries) = sent_is entries

  -- ---- an entry of a view ----

  abbrev IsHeldIn : List Entry → Request → Type 0
  IsHeldIn entries r = IsHeld (known_from s entries) r

  held_behind : (b : Bool) (entry : Entry) (entries : List Entry) (r : Request) → (b ≡ true → IsHeldIn entries r → IsHeld (step s (known_from s entries) entry) r) → IsHeldIn entries r → IsHeldIn (entry_if b entry entries) r
  unfolding told_by
  held_behind true entry entries r keeps H = keeps refl H
  held_behind false entry entries r keeps H = H

  not_anew : (b : Bool) (fresh entries : List Entry) (r : Request) → b ≡ false → IsHeldIn entries r → IsHeldIn (if b then fresh else entries) r
  not_anew true fresh entries r none H = absurd (cc)
  not_anew false fresh entries r none H = H

  -- what is told of all clients leaves the commands as they are
  held_still : (known later : Known) (r : Request) → later.sent ≡ known.sent → later.asks ≡ known.asks → IsHeld known r → IsHeld later r
  held_still known later r sent same H = held_as known later r (omega (arith, sent)) (ap (ask_at r.place) same) H

  -- ---- a fact ----

  -- it answers another request, and lets in or ends no connection of its sender's name
  abbrev Spares : Fact → Request → Type 0
  Spares (Admitted d) r = (d == r.conn) ≡ false
  Spares (Ended d why) r = (d == r.conn) ≡ false
  Spares (Answered q m) r = (q.conn == r.conn) ≡ true → (q.place == r.place) ≡ false
  Spares (IdHeld q) r = (q.conn == r.conn) ≡ true → (q.place == r.place) ≡ false
  Spares (Expired q) r = (q.conn == r.conn) ≡ true → (q.place == r.place) ≡ false
  Spares (Aborted q) r = (q.conn == r.conn) ≡ true → (q.place == r.place) ≡ false
  Spares _ r = Unit {0}

  still_held : (fact : Fact) (past : List Fact) (r : Request) → Spares fact r → IsHeld (known_now s r.conn past) r → IsHeld (known_now s r.conn (fact ∷ past)) r
  unfolding view
  still_held (Admitted d) past r spared H = not_anew (d == r.conn) [] (view_of r.conn past) r spared H
  still_held (Ended d NotAdmitted) past r spared H = not_anew (d == r.conn) (End NotAdmitted ∷ []) (view_of r.conn past) r spared H
  still_held (Ended d BadStream) past r spared H = held_behind (d == r.conn) (End BadStream) (view_of r.conn past) r (λ e held. held) H
  still_held (Ended d Leaving) past r spared H = held_behind (d == r.conn) (End Leaving) (view_of r.conn past) r (λ e held. held) H
  still_held (Ended d NoRoom) past r spared H = H
  still_held (Judged d place m verdict) past r spared H = held_behind (d == r.conn) (Said m verdict) (view_of r.conn past) r (λ e held. held_sent (known_now s r.conn past) m verdict r held) H
  still_held (Taken d count) past r spared H = held_behind (d == r.conn) (Taking count) (view_of r.conn past) r (λ e held. held) H
  still_held (Answered q m) past r spared H = held_behind (q.conn == r.conn) (Response q.place (blank m)) (view_of r.conn past) r (λ e held. held_without (known_now s r.conn past) q.place r (spared e) held) H
  still_held (IdHeld q) past r spared H = held_behind (q.conn == r.conn) (Refused q.place HeldId) (view_of r.conn past) r (λ e held. held_without (known_now s r.conn past) q.place r (spared e) held) H
  still_held (Expired q) past r spared H = held_behind (q.conn == r.conn) (Refused q.place NoAnswer) (view_of r.conn past) r (λ e held. held_without (known_now s r.conn past) q.place r (spared e) held) H
  still_held (Aborted q) past r spared H = held_behind (q.conn == r.conn) (Refused q.place NoAnswer) (view_of r.conn past) r (λ e held. held_without (known_now s r.conn past) q.place r (spared e) held) H
  still_held (Indicated m receivers) past r spared H = held_behind (contains r.conn receivers) (Indication m) (view_of r.conn past) r (λ e held. held) H
  still_held (OpeningEnded status receivers) past r spared H =
      held_behind (contains r.conn receivers) (OpenedWith status) (view_of r.conn past) r (λ e held. held_still (known_now s r.conn past) (step s (known_now s r.conn past) (OpenedWith status)) r refl refl held) H
  still_held (SessionsClosed receivers) past r spared H = held_behind (contains r.conn receivers) Shut (view_of r.conn past) r (λ e held. held_still (known_now s r.conn past) (step s (known_now s r.conn past) Shut) r refl refl held) H
  still_held _ past r spared H = H

  -- ---- a command is forwarded ----

  module _ (r : Request) (past : List Fact) (C : CarriesItsCommand s r past) where
    abbrev known : Known
    known = known_now s r.conn C.before

    known_is : known_now s r.conn past ≡ step s known (Said C.message Forward)
    unfolding view told_by
    known_is = ap (known_now s r.conn) C.judged ∙ ap (λ (b : Bool). known_from s (entry_if b (Said C.message Forward) (view_of r.conn C.before))) (eq-eqb r.conn r.conn refl)

    place_is : r.place ≡ known.sent + 1
    place_is = C.place ∙ sym (sent_is (view_of r.conn past)) ∙ ap (λ (k : Known). k.sent) known_is

    ask_is : ask_at r.place (known_now s r.conn past).asks ≡ ask_of s known C.message
    ask_is = ap (λ (k : Known). ask_at r.place k.asks) known_is ∙ ap (λ (b : Bool). if b then ask_of s known C.message else ask_at r.place known.asks) (eq-eqb (known.sent + 1) r.place (sym place_is))

    told_is : IsTold r (ask_of s known C.message)
    told_is = record {
      number = sym (ap (λ (l : List ℕ). u32_bytes (number_of l)) C.command ∙ number_again (number_of C.message) (command_with s known C.message));
      uuid = sym (ap (λ (l : List ℕ). uuid_of (body_of l)) C.command);
      cid = sym (ap (λ (l : List ℕ). cid_of (body_of l)) C.command);
    }

    command_held : IsHeld (known_now s r.conn past) r
    command_held = record {
      command = ap (is_kind Open) C.command;
      place = let same = place_is in let sent = ap (λ (k : Known). k.sent) known_is in omega arith;
      told = subst (IsTold r) (sym ask_is) told_is;
    }

  -- ---- the requests that wait ----

  -- of a client's request its view tells the command
  abbrev IsNamed : List Fact → Request → Type 0
  IsNamed past r = (r.conn == 0) ≡ false → IsHeld (known_now s r.conn past) r

  -- so it did before the newest message
  abbrev WasNamed : List Fact → Request → Type 0
  WasNamed (Judged c place m verdict ∷ past) r = IsNamed past r
  WasNamed _ r = Unit {0}

  -- no two of a client's requests carry the same command
  abbrev Elsewhere : Request → Request → Type 0
  Elsewhere q r = q.conn ≡ r.conn → q.place ≡ r.place → r.conn ≡ 0

  record AreNamed (past : List Fact) : Type 0 where
    named : AllByRecursion (IsNamed past) (pending past)
    before : AllByRecursion (WasNamed past) (pending past)
    once : AllPairs Elsewhere (pending past)

  turned : (q r : Request) → Elsewhere q r → Elsewhere r q
  turned q r away = λ conn place. sym conn ∙ away (sym conn) (sym place)

  other_place : (q r : Request) → Elsewhere q r → (r.conn == 0) ≡ false → (q.conn == r.conn) ≡ true → (q.place == r.place) ≡ false
  other_place q r away client same = false_from_ne_true (q.place == r.place) (λ e. true≢false (sym (eq-eqb r.conn 0 (away (eqb-true q.conn r.conn same) (eqb-true q.place r.place e))) ∙ client))

  all_elsewhere : (requests : List Request) (q : Request) → AllPairs Elsewhere requests → Contains requests q → AllByRecursion (λ r. (q.serial == r.serial) ≡ false → Elsewhere q r) requests
  all_elsewhere [] q pairs at = tt
  all_elsewhere (x ∷ requests) q pairs at =
      let first : All (Elsewhere x) requests = head_all Elsewhere x requests pairs in
      ⊎_elim
      (λ (is : x ≡ q). (
        λ e. absurd (true≢false (sym (eq-eqb q.serial x.serial (ap (λ (y : Request). y.serial) (sym is))) ∙ e)),
        subst (λ (y : Request). AllByRecursion (λ (r : Request). (y.serial == r.serial) ≡ false → Elsewhere y r) requests) is
            (all_weaker (Elsewhere x) (λ (r : Request). (x.serial == r.serial) ≡ false → Elsewhere x r) (λ r away e. away) requests (recursion_from_All (Elsewhere x) requests first)),
      ))
      (λ (later : Contains requests q). (λ e. turned x q (All-contains (Elsewhere x) requests q first later), all_elsewhere requests q (tail_pairs Elsewhere x requests pairs) later))
      (Contains-cons_cases q x requests at)

  all_of_both : (P Q : Request → Type 0) (requests : List Request) → AllByRecursion P requests → AllByRecursion Q requests → AllByRecursion (λ r. P r × Q r) requests
  all_of_both P Q [] p q = tt
  all_of_both P Q (r ∷ requests) p q = ((p.0, q.0), all_of_both P Q requests p.1 q.1)

  of_none : (requests : List Request) → AllByRecursion (λ r. Unit {0}) requests
  of_none [] = tt
  of_none (r ∷ requests) = (tt, of_none requests)

  -- ---- from fact to fact ----

  quiet : (fact : Fact) (past : List Fact) → ((r : Request) → Spares fact r) → AllByRecursion (IsNamed past) (pending past) → AllByRecursion (IsNamed (fact ∷ past)) (pending past)
  quiet fact past spared all = all_weaker (IsNamed past) (IsNamed (fact ∷ past)) (λ r named client. still_held fact past r (spared r) (named client)) (pending past) all

  -- a request gets an answer, or a refusal in its place
  module _ (fact : Fact) (past : List Fact) (q : Request) (spared : (r : Request) → ((q.conn == r.conn) ≡ true → (q.place == r.place) ≡ false) → Spares fact r) (at : Contains (pending past) q) (N : AreNamed past) where
    left_named : AllByRecursion (IsNamed (fact ∷ past)) (filter (λ (r : Request). not (q.serial == r.serial)) (pending past))
    left_named =
        all_passing (λ (r : Request). not (q.serial == r.serial)) (λ (r : Request). IsNamed past r × ((q.serial == r.serial) ≡ false → Elsewhere q r)) (IsNamed (fact ∷ past))
        (λ r passes both client. still_held fact past r (spared r (other_place q r (both.1 (not-true (q.serial == r.serial) passes)) client)) (both.0 client)) (pending past)
        (all_of_both (IsNamed past) (λ (r : Request). (q.serial == r.serial) ≡ false → Elsewhere q r) (pending past) N.named (all_elsewhere (pending past) q N.once at))

  left_once : (past : List Fact) (q : Request) → AllPairs Elsewhere (pending past) → AllPairs Elsewhere (filter (λ (r : Request). not (q.serial == r.serial)) (pending past))
  left_once past q once = AllPairs-filter Elsewhere (λ (r : Request). not (q.serial == r.serial)) (pending past) once

  asked_named : (r : Request) (past : List Fact) → IsAsked s r past → IsNamed past r
  asked_named r past A client =
      ⊎_elim
      (λ (C : CarriesItsCommand s r past). command_held r past C)
      (λ own. absurd (true≢false (sym (eq-eqb r.conn 0 (⊎_elim (λ O. O.own) (λ L. L.own) own)) ∙ client)))
      A.carries

  -- those that waited before are of earlier messages
  asked_elsewhere : (q r : Request) (past : List Fact) → IsAsked s r past → WasNamed past q → Elsewhere q r
  asked_elsewhere q r past A was conn place =
      let step : (b : Bool) → (r.conn == 0) ≡ b → r.conn ≡ 0 =
      λ b. elim b as (λ b. (r.conn == 0) ≡ b → r.conn ≡ 0) [
        | true ↦ λ e. eqb-true r.conn 0 e
        | false ↦ λ e. ⊎_elim (λ (C : CarriesItsCommand s r past). absurd (clash C e)) (λ own. ⊎_elim (λ O. O.own) (λ L. L.own) own) A.carries
      ]
      in step (r.conn == 0) refl
    where
      clash : CarriesItsCommand s r past → (r.conn == 0) ≡ false → ⊥
      clash C client =
          let named : IsNamed C.before q = subst (λ (l : List Fact). WasNamed l q) C.judged was in
          let held = named (ap (λ (n : ℕ). n == 0) conn ∙ client) in
          let within : q.place ≤ (known_now s r.conn C.before).sent = subst (λ (n : ℕ). q.place ≤ (known_now s n C.before).sent) conn held.place in
          let later = place_is r past C in
          omega arith

  named_more : (fact : Fact) (past : List Fact) → Regular s (fact ∷ past) → AreNamed past → AreNamed (fact ∷ past)
  unfolding pending
  named_more (Forwarded r) past R N = record {
    named = all_push (IsNamed (Forwarded r ∷ past)) (pending past) r (quiet (Forwarded r) past (λ q. tt) N.named) (λ client. still_held (Forwarded r) past r tt (asked_named r past R.asked.0.1 client));
    before = of_none (pending past ++ r ∷ []);
    once = all_pairs_push Elsewhere (pending past) r N.once (λ k d within. asked_elsewhere (get_or (pending past) k d) r past R.asked.0.1 (All-from_recursion (WasNamed past) (pending past) N.before k d within));
  }
  named_more (Judged c place m verdict) past R N = record { named = quiet (Judged c place m verdict) past (λ q. tt) N.named; before = N.named; once = N.once }
  named_more (Answered r m) past R N = record { named = left_named (Answered r m) past r (λ q elsewhere. elsewhere) R.sound.0 N; before = of_none _; once = left_once past r N.once }
  named_more (IdHeld r) past R N = record { named = left_named (IdHeld r) past r (λ q elsewhere. elsewhere) R.sound.0 N; before = of_none _; once = left_once past r N.once }
  named_more (Expired r) past R N = record { named = left_named (Expired r) past r (λ q elsewhere. elsewhere) R.sound.0 N; before = of_none _; once = left_once past r N.once }
  named_more (Aborted r) past R N = record { named = left_named (Aborted r) past r (λ q elsewhere. elsewhere) R.sound.0 N; before = of_none _; once = left_once past r N.once }
  named_more (Late r) past R N = record {
    named = all_passing (λ (q : Request). not (r.serial == q.serial)) (IsNamed past) (IsNamed (Late r ∷ past)) (λ q passes named client. still_held (Late r) past q tt (named client)) (pending past) N.named;
    before = of_none _;
    once = left_once past r N.once;
  }
  named_more (Ended c why) past R N = record {
    named = all_passing (λ (q : Request). not (c == q.conn)) (IsNamed past) (IsNamed (Ended c why ∷ past)) (λ q passes named client. still_held (Ended c why) past q (not-true (c == q.conn) passes) (named client)) (pending past) N.named;
    before = of_none _;
    once = AllPairs-filter Elsewhere (λ (q : Request). not (c == q.conn)) (pending past) N.once;
  }
  named_more (Admitted c) past R N = record {
    named =
        all_weaker (λ (q : Request). IsNamed past q × IsParty q.conn past) (IsNamed (Admitted c ∷ past))
        (λ q both client. still_held (Admitted c) past q (other_name q both.1 client) (both.0 client)) (pending past)
        (all_of_both (IsNamed past) (λ (q : Request). IsParty q.conn past) (pending past) N.named (recursion_from_All (λ (q : Request). IsParty q.conn past) (pending past) (waiting_are_parties s.limits past R.sound.1)));
    before = of_none _;
    once = N.once;
  }
    where
      other_name : (q : Request) → IsParty q.conn past → (q.conn == 0) ≡ false → (c == q.conn) ≡ false
      other_name q party client =
          let there : contains q.conn (present past) ≡ true = sym (ap (λ (b : Bool). b || contains q.conn (present past)) client) ∙ party in
          let other = ne_apart q.conn c (present past) there R.new.0.1 in
          grind (arith, nat_tests, other)
  named_more Reset past R N = record { named = tt; before = tt; once = λ i j d before within. absurd (omega arith) }
  named_more ModemLost past R N = record { named = tt; before = tt; once = λ i j d before within. absurd (omega arith) }
  named_more fact past R N = record { named = quiet fact past (λ q. tt) N.named; before = of_none (pending past); once = N.once }

  are_named : (past : List Fact) → Regular s past → AreNamed past
  unfolding pending
  are_named [] R = record { named = tt; before = tt; once = λ i j d before within. absurd (omega arith) }
  are_named (fact ∷ past) R = named_more fact past R (are_named past (record { sound = R.sound.1; asked = R.asked.1; new = R.new.1 }))

-- ---- a request that waits ----

-- what its sender's own view tells of it
abbrev pub ask_for : Setup → List Fact → Request → Ask
ask_for s past r = ask_at r.place (known_now s r.conn past).asks

-- a command of a client that is there; a number is the same as far as it is written
pub record IsCommandOf (s : Setup) (past : List Fact) (r : Request) : Type 0 where
  pub sender : contains r.conn (present past) ≡ true
  pub command : is_own_open r ≡ false
  pub number : u32_bytes (ask_for s past r).number ≡ u32_bytes (number_of r.message)
  pub uuid : (ask_for s past r).uuid ≡ uuid_of (body_of r.message)
  pub cid : (ask_for s past r).cid ≡ cid_of (body_of r.message)

-- it is the proxy's own, or a client's command
pub command_of : (s : Setup) (past : List Fact) (r : Request) → Regular s past → Contains (pending past) r → (r.conn ≡ 0) ⊎ IsCommandOf s past r
command_of s past r R at = by (r.conn == 0) refl
  where
    by : (b : Bool) → (r.conn == 0) ≡ b → (r.conn ≡ 0) ⊎ IsCommandOf s past r
    by true own = inl (eqb-true r.conn 0 own)
    by false client =
        let held = All-contains (IsNamed s past) (pending past) r (All-from_recursion (IsNamed s past) (pending past) (are_named s past R).named) at client in
        let party : IsParty r.conn past = All-contains (λ (q : Request). IsParty q.conn past) (pending past) r (waiting_are_parties s.limits past R.sound) at in
        inr (record {
          sender = sym (ap (λ (b : Bool). b || contains r.conn (present past)) client) ∙ party;
          command = held.command;
          number = held.told.number;
          uuid = held.told.uuid;
          cid = held.told.cid;
        })
