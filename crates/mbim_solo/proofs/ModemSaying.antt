-- What the modem says keeps all and the client that is alone alike.
use Rattle.std.proofs.Common.{◌≡◌, ◌≢◌, ℕ, zero, ◌^◌, ◌≤◌, ◌<◌, Bool, true, false, not, ◌&&◌, ◌==◌, is_none, if◌then◌else◌, List, [], ◌∷◌, length, refl, ap, sym, ◌∙◌, subst, inl, inr, arith, Contains, Option, Some, None}
use Rattle.std.specs.List.{AllByRecursion, list_any}
use Rattle.std.proofs.lemmas.Bool.{and_parts, false_from_ne_true}
use Rattle.kit_bytes.specs.Indications.{wants}
use Rattle.framing.specs.Framing.{IsMessage}
use Rattle.mbim_frame.specs.declared.kind.MessageKind.TheVariants.{OpenDone}
use Rattle.mbim_frame.specs.declared.status.TheConstants.{FAILURE}
use Rattle.mbim_frame.specs.Numbers.{u32_at}
use Rattle.mbim_frame.specs.Frame.{size_of}
use Rattle.mbim_frame.specs.Head.{is_kind, number_of, with_number}
use Rattle.mbim_frame.specs.Fragment.{body_of}
use Rattle.mbim_frame.specs.Bodies.{uuid_of, cid_of}
use Rattle.proxy_history.specs.Events.{Event}
use Rattle.proxy_history.specs.Streams.{stream}
use Rattle.proxy_history.specs.Items.{Item, ModemSays}
use Rattle.proxy_history.specs.Facts.{Fact, Request, Answered}
use Rattle.proxy_history.specs.Connections.{contains, present, is_present}
use Rattle.proxy_history.specs.Requests.{in_use, pending, first_where, is_pending}
use Rattle.proxy_history.specs.Modem.{now, is_away}
use Rattle.proxy_history.specs.Coming.{AreSound}
use Rattle.proxy_history.specs.History.{add_all}
use Rattle.proxy_history.proofs.Sound.{forwarded_from_in_use, waits}
use Rattle.proxy_history.proofs.Found.{found_is}
use Rattle.proxy_history.proofs.Folds.{away_agrees}
use Rattle.proxy_solo.specs.Answers.{number_at, numbered, answer_alone}
use Rattle.proxy_solo.specs.Solo as alone
use Rattle.proxy_solo.proofs.Lists.{contains-filter}
use Rattle.proxy_solo.proofs.Queries.{away-part}
use Rattle.proxy_solo.proofs.Time.{item_keeps_time}
use Rattle.mbim_proxy.specs.Setup.{Setup}
use Rattle.mbim_proxy.specs.Step.{blank, known_now}
use Rattle.mbim_proxy.specs.Text.{note}
use Rattle.mbim_proxy.specs.ModemStates.{ModemState, IsAway, IsShut, IsOpening, IsReady, is_own_open, state}
use Rattle.mbim_proxy.specs.Lists.{open_ones, list_of, receivers, waiting}
use Rattle.mbim_proxy.specs.FromModem.{Heard, IsDone, IsOpenDone, IsError, IsIndication, IsNeither, heard_as, opening_status, is_answered_by, first_answered_by, end_opening, answer_or_late, respond, hear_as, hear_modem}
use Rattle.mbim_proxy.specs.History.{mbim_protocol, history}
use Rattle.mbim_proxy.proofs.Walk.{Asks, orderly}
use Rattle.mbim_solo.specs.Solo.{in_fragments, message_if, heard_alone, failed, answered_by, is_waiting_open, answer_to, own_open_in, hears_if, hears, restated, mbim_alone}
use Rattle.mbim_solo.specs.Part.{part}
use Rattle.mbim_solo.specs.Openings.{MayBeOpen, is_absent}
use Rattle.mbim_solo.proofs.Reading.{reads}
use Rattle.mbim_solo.proofs.Noted.{is_waiting, waiting-part}
use Rattle.mbim_solo.proofs.Hearing.{is_command}
use Rattle.mbim_solo.proofs.Saying.{OpenAlike}
use Rattle.mbim_solo.proofs.Openings.{open_waits}
use Rattle.mbim_solo.proofs.Endings.{opens_with, open_answered-part}
use Rattle.mbim_solo.proofs.Spoken.{IsQuiet, SaysOne}
use Rattle.mbim_solo.proofs.Relation.{IsRoomy, is_end_of, IsOrderly, Rests, IsQuietThere, modem_bytes, IsSettled, Stand, OpensOnly, AsksAlone, Stands, Alike}
use Rattle.mbim_solo.proofs.Orderly.{item_orderly, histories_are_orderly}
use Rattle.mbim_solo.proofs.Standing.{there_not_ended, waits-part, passes_alone}
use Rattle.mbim_solo.proofs.Heard.{CameAs}
use Rattle.mbim_solo.proofs.Changes.{speaks, MayEnd, ends_itself, ends_still, still_in_use, still_wait, still_waits_not, heard_ends, ended_before, waits_in_opening, opened_state}
use Rattle.mbim_solo.proofs.Speaking.{IsLike, Spoke, stands_like, alike_settled}
use Rattle.mbim_solo.proofs.Speaking as speaking
use Rattle.mbim_solo.proofs.Opened.{short_is_said, then_is, opened_alone, both_opened}
use Rattle.mbim_solo.proofs.Told.{opened_short, opens_when_done, opens_not_in_error, number_fits, Unmoved, IsHeardAlike, heard_alike}

-- ---- states that are alike ----

alike_later : (all later own : ModemState) → MayEnd all later → OpenAlike all own → OpenAlike later own
alike_later IsAway IsAway own may alike = alike
alike_later IsShut IsShut own may alike = alike
alike_later IsReady IsReady own may alike = alike
alike_later IsOpening IsShut IsShut may alike = tt
alike_later IsOpening IsReady IsShut may alike = tt
alike_later IsOpening IsOpening IsShut may alike = tt
alike_later IsOpening IsAway IsShut may alike = absurd may
alike_later IsOpening later IsAway may alike = absurd alike
alike_later IsOpening later IsOpening may alike = absurd alike
alike_later IsOpening later IsReady may alike = absurd alike
alike_later _ _ _ may alike = absurd may

pub own_opens_not : (all own : ModemState) → OpenAlike all own → own ≡ IsOpening → ⊥
own_opens_not IsAway IsOpening alike e = alike
own_opens_not IsShut IsOpening alike e = alike
own_opens_not IsOpening IsOpening alike e = alike
own_opens_not IsReady IsOpening alike e = alike
own_opens_not _ IsAway alike e = cc
own_opens_not _ IsShut alike e = cc
own_opens_not _ IsReady alike e = cc

pub none_left : (requests : List Request) → AllByRecursion (λ r. ⊥) requests → requests ≡ []
none_left [] all = refl
none_left (r ∷ requests) all = absurd all.0

module _ (s : Setup) (c : ℕ) where
  stand_opens : (all own : ModemState) → Stand s c true all own → (all ≡ IsOpening) × (own ≡ IsOpening)
  stand_opens IsOpening IsOpening stand = (refl, refl)
  stand_opens _ _ stand = absurd stand

  asks_fewer : (modem : ModemState) (past own after facts : List Fact) → (modem ≡ IsOpening → ⊥) → ((Q : Request → Type 0) → AllByRecursion Q (in_use own) → AllByRecursion Q (in_use facts)) → AsksAlone s c modem past own → AsksAlone s c modem after facts
  asks_fewer IsAway past own after facts other fewer none = none_left (in_use facts) (fewer (λ r. ⊥) (subst (AllByRecursion (λ r. ⊥)) (sym none) tt))
  asks_fewer IsShut past own after facts other fewer none = none_left (in_use facts) (fewer (λ r. ⊥) (subst (AllByRecursion (λ r. ⊥)) (sym none) tt))
  asks_fewer IsOpening past own after facts other fewer asks = absurd (other refl)
  asks_fewer IsReady past own after facts other fewer mine = fewer (λ r. (r.conn == c) ≡ true) mine

  asks_opening : (modem : ModemState) (past own : List Fact) → modem ≡ IsOpening → AsksAlone s c modem past own → OpensOnly s c past own
  asks_opening IsAway past own is asks = absurd (cc)
  asks_opening IsShut past own is asks = absurd (cc)
  asks_opening IsOpening past own is asks = asks
  asks_opening IsReady past own is asks = absurd (cc)

module _ (s : Setup) (R : IsRoomy s) (c : ℕ) (client : c ≢ 0) where
  abbrev pub now_in : List Fact → ModemState
  now_in past = state s.starts_away past

  -- ---- a client whose request to open doesn't wait ----

  pub silent_stands : (items own_items : List Item) (past own : List Fact) → AllByRecursion (λ item. speaks item ≡ false) items → AllByRecursion (λ item. speaks item ≡ false) own_items → IsOrderly s c past → IsOrderly s c own
      → IsOrderly s c (add_all (mbim_protocol s) items past) → MayEnd (now_in past) (now_in (add_all (mbim_protocol s) items past)) → MayEnd (now_in own) (now_in (add_all (mbim_protocol s) own_items own))
      → is_waiting s c (part c past) ≡ false → Stands s c past own → Stands s c (add_all (mbim_protocol s) items past) (add_all (mbim_protocol s) own_items own)
  silent_stands items own_items past own silent own_silent P O after_orderly may own_may none S =
      let after : List Fact = add_all (mbim_protocol s) items past in
      let facts : List Fact = add_all (mbim_protocol s) own_items own in
      let alike : OpenAlike (now_in past) (now_in own) = subst (λ (b : Bool). Stand s c b (now_in past) (now_in own)) none S.states in
      let same : now_in facts ≡ now_in own = ends_still (now_in own) (now_in facts) (own_opens_not (now_in past) (now_in own) alike) own_may in
      let waits_none : is_waiting s c (part c after) ≡ false = waits-part s c client after after_orderly.fit.once ∙ still_waits_not s c items past silent P.sound (sym (waits-part s c client past P.fit.once) ∙ none) in
      record {
        states =
            subst (λ (b : Bool). Stand s c b (now_in after) (now_in facts)) (sym waits_none)
            (subst (OpenAlike (now_in after)) (sym same) (alike_later (now_in past) (now_in after) (now_in own) may alike));
        asks =
            subst (λ (m : ModemState). AsksAlone s c m after facts) (sym same)
            (asks_fewer s c (now_in own) past own after facts (own_opens_not (now_in past) (now_in own) alike) (λ Q all. still_in_use s Q own_items own own_silent O.sound all) S.asks);
      }

  -- ---- a client whose request to open waits ----

  -- then both modems open
  pub record WaitsAlike (past own : List Fact) : Type 0 where
    pub not_ended : list_any (is_end_of c) past ≡ false
    pub all : now_in past ≡ IsOpening
    pub alone : now_in own ≡ IsOpening
    pub only : OpensOnly s c past own

  pub waits_alike : (past : List Fact) (solo : List Event) (bytes : List ℕ) → Alike s c past solo bytes → is_waiting s c (part c past) ≡ true → WaitsAlike past (history s solo)
  waits_alike past solo bytes A waiting =
      let P = A.orderly in
      let there = (and_parts (is_present c past) _ (sym (waits-part s c client past P.fit.once) ∙ waiting)).0 in
      let not_ended = there_not_ended s c client past P.fit.placed there in
      let S = A.stands not_ended in
      let both = stand_opens s c (now_in past) (now_in (history s solo)) (subst (λ (b : Bool). Stand s c b (now_in past) (now_in (history s solo))) waiting S.states) in
      record { not_ended = not_ended; all = both.0; alone = both.1; only = asks_opening s c (now_in (history s solo)) past (history s solo) both.1 S.asks }

  -- and what leaves both as they are, keeps them so
  pub still_waits_alike : (past after own facts : List Fact) → WaitsAlike past own → IsOrderly s c after → is_waiting s c (part c after) ≡ true → ((Q : Request → Type 0) → AllByRecursion Q (pending past) → AllByRecursion Q (pending after))
      → now_in facts ≡ now_in own → in_use facts ≡ in_use own → pending facts ≡ pending own → Stands s c after facts
  still_waits_alike past after own facts W after_orderly waiting fewer same used waits =
      let opening : now_in after ≡ IsOpening = waits_in_opening s c after after_orderly.order (sym (waits-part s c client after after_orderly.fit.once) ∙ waiting) in
      let alone : now_in facts ≡ IsOpening = same ∙ W.alone in
      let U = W.only in
      record {
        states =
            subst (λ (b : Bool). Stand s c b (now_in after) (now_in facts)) (sym waiting)
            (subst (λ (m : ModemState). Stand s c true m (now_in facts)) (sym opening) (subst (λ (m : ModemState). Stand s c true IsOpening m) (sym alone) tt));
        asks = subst (λ (m : ModemState). AsksAlone s c m after facts) (sym alone) (record {
          request = U.request;
          opens = U.opens;
          only = used ∙ U.only;
          waits = waits ∙ U.waits;
          later = fewer (λ r. r.deadline ≤ U.request.deadline) U.later;
        });
      }

  -- ---- the modem is there alone where it is there ----

  some_bytes : (o : Option (List ℕ)) → is_none o ≡ false → (bytes : List ℕ) × (o ≡ Some bytes)
  some_bytes None e = absurd (cc)
  some_bytes (Some bytes) e = (bytes, refl)

  pub there_alone : (solo : List Event) → is_away s.starts_away (history s solo) ≡ false → (start : List ℕ) × (modem_bytes s c solo ≡ Some start)
  there_alone solo there = some_bytes (modem_bytes s c solo) (sym (away_agrees (mbim_protocol s) (Asks s) (orderly s) solo) ∙ there)

  pub away_alike : (past : List Fact) (solo : List Event) (bytes : List ℕ) → Alike s c past solo bytes → is_away s.starts_away (history s solo) ≡ is_away s.starts_away past
  away_alike past solo bytes A = sym (away-part s.limits blank restated reads c s.starts_away (history s solo)) ∙ ap (is_away s.starts_away) (sym A.same) ∙ away-part s.limits blank restated reads c s.starts_away past

  pub opening_is_there : (own : List Fact) → IsOrderly s c own → now_in own ≡ IsOpening → is_away s.starts_away own ≡ false
  opening_is_there own O opening = O.order.away ∙ ap is_absent opening

  -- ---- the modem ends the opening ----

  -- a message that tells how it ended, under the number of the proxy's request
  pub record TellsStatus (status : ℕ) (message : List ℕ) : Type 0 where
    pub said : (n : ℕ) → n < 2 ^ 32 → SaysOne s (with_number n message) (with_number n message)
    pub heard : (n : ℕ) → n < 2 ^ 32 → heard_as (with_number n message) ≡ IsOpenDone
    pub number : (n : ℕ) → n < 2 ^ 32 → number_of (with_number n message) ≡ n
    pub status_is : (n : ℕ) → n < 2 ^ 32 → opening_status (with_number n message) ≡ status

  pub failed_tells : TellsStatus FAILURE failed
  failed_tells = record {
    said = λ n below. (short_is_said s n failed below refl refl).one;
    heard = λ n below. (short_is_said s n failed below refl refl).same.heard;
    number = λ n below. (short_is_said s n failed below refl refl).same.number_is;
    status_is = λ n below. (short_is_said s n failed below refl refl).status;
  }

  -- the modem told the status alone, and facts tell that of the client
  pub record OpenedAlone (past : List Fact) (solo : List Event) (status : ℕ) (then_solo : List Event) : Type 0 where
    pub facts : List Fact
    pub same : part c facts ≡ opens_with s c client status (part c past)
    pub time : now facts ≡ now past
    pub state : state s.starts_away facts ≡ then_is s c client status
    pub in_use : in_use facts ≡ []
    pub settled : IsSettled s c facts (history s then_solo)
    pub may : AreSound (mbim_protocol s) then_solo
    pub sent : stream c then_solo ≡ stream c solo
    pub quiet : IsQuietThere s c (modem_bytes s c then_solo)

  keeps_time : (m : List ℕ) (past : List Fact) → IsOrderly s c past → now (hear_modem s m past) ≡ now past
  keeps_time m past P = item_keeps_time (mbim_protocol s) (Asks s) (orderly s) (ModemSays m) past P.sound refl

  pub opens_alone : (past : List Fact) (solo : List Event) → part c past ≡ part c (history s solo) → now past ≡ now (history s solo) → AreSound (mbim_protocol s) solo → Rests s c (history s solo) → IsQuietThere s c (modem_bytes s c solo)
      → now_in (history s solo) ≡ IsOpening → (q : Request) → is_own_open q ≡ true → in_use (history s solo) ≡ q ∷ [] → pending (history s solo) ≡ q ∷ []
      → (status : ℕ) (message : List ℕ) → TellsStatus status message → OpenedAlone past solo status (alone.meet_bytes (mbim_protocol s) (mbim_alone s) (answer_to (own_open_in (history s solo)) message) solo)
  opens_alone past solo same time may rests quiet opening q opens used pends status message tells =
      let own : List Fact = history s solo in
      let O = histories_are_orderly s c client solo may in
      let start = there_alone solo (opening_is_there own O opening) in
      let at : Contains (in_use own) q = subst (λ (l : List Request). Contains l q) (sym used) (zero, omega arith, refl) in
      let below : q.number < 2 ^ 32 = number_fits s R c client own O q at in
      let x : List ℕ = with_number q.number message in
      let found : answer_to (own_open_in own) message ≡ Some x =
      ap (λ (l : List Request). answer_to (first_where is_own_open l) message) pends ∙ ap (λ (b : Bool). answer_to (let o : Option Request = if b then Some q else None in o) message) opens
      in
      let Q : IsQuiet s start.0 = subst (IsQuietThere s c) start.1 quiet in
      let T = speaking.speaks s c R client solo start.0 x x Q (tells.said q.number below) may rests start.1 in
      let E = opened_alone s c client q T.before T.orderly (T.like.state ∙ opening) (T.like.in_use ∙ used) (T.like.pending ∙ pends) opens x (tells.heard q.number below) (tells.number q.number below) in
      let is : opening_status x ≡ status = tells.status_is q.number below in
      subst (λ (o : Option (List ℕ)). OpenedAlone past solo status (alone.meet_bytes (mbim_protocol s) (mbim_alone s) o solo)) (sym found) (record {
        facts = hear_modem s x T.before;
        same = E.same ∙ ap (λ (n : ℕ). opens_with s c client n (part c T.before)) is ∙ ap (opens_with s c client status) (T.like.same ∙ sym same);
        time = keeps_time x T.before T.orderly ∙ T.like.time ∙ sym time;
        state = E.state ∙ ap (then_is s c client) is;
        in_use = E.in_use;
        settled = T.settled;
        may = T.may;
        sent = T.sent;
        quiet = T.quiet;
      })

  -- ---- what the modem says ----

  module _ (m : List ℕ) (past : List Fact) (solo : List Event) (bytes : List ℕ) (A : Alike s c past solo bytes) where
    abbrev own : List Fact
    own = history s solo

    abbrev after : List Fact
    after = hear_modem s m past

    after_orderly : IsOrderly s c after
    after_orderly = item_orderly s c client (ModemSays m) past tt A.orderly

    own_orderly : IsOrderly s c own
    own_orderly = histories_are_orderly s c client solo A.may

    fewer_after : (Q : Request → Type 0) → AllByRecursion Q (pending past) → AllByRecursion Q (pending after)
    unfolding add_all
    fewer_after Q all = still_wait s Q (ModemSays m ∷ []) past (refl, tt) A.orderly.sound all

    before_that : list_any (is_end_of c) after ≡ false → list_any (is_end_of c) past ≡ false
    unfolding add_all
    before_that none = ended_before s c (ModemSays m ∷ []) past A.orderly.sound none

    -- one whose request to open doesn't wait, behind what it heard alone
    stands_behind : (whole : List ℕ) (at : List Fact) → IsOrderly s c at → IsLike s c at own → is_waiting s c (part c past) ≡ false → list_any (is_end_of c) after ≡ false → Stands s c after (hear_modem s whole at)
    unfolding add_all
    stands_behind whole at N like none stays =
        let S : Stands s c past at = stands_like s c past own at like (A.stands (before_that stays)) in
        silent_stands (ModemSays m ∷ []) (ModemSays whole ∷ []) past at (refl, tt) (refl, tt) A.orderly N after_orderly (heard_ends s m past A.orderly.sound A.orderly.order) (heard_ends s whole at N.sound N.order) none S

    stands_unheard : is_waiting s c (part c past) ≡ false → list_any (is_end_of c) after ≡ false → Stands s c after own
    unfolding add_all
    stands_unheard none stays =
        silent_stands (ModemSays m ∷ []) [] past own (refl, tt) tt A.orderly own_orderly after_orderly (heard_ends s m past A.orderly.sound A.orderly.order) (ends_itself (now_in own)) none (A.stands (before_that stays))

    -- ---- while the client's request to open waits ----

    module _ (W : WaitsAlike past own) where
      theirs : (W.only.request.conn == c) ≡ false
      theirs =
          let at : Contains (in_use own) W.only.request = subst (λ (l : List Request). Contains l W.only.request) (sym W.only.only) (zero, omega arith, refl) in
          false_from_ne_true (W.only.request.conn == c)
          (λ mine. let clash : true ≡ false = sym W.only.opens ∙ is_command s R.enough c client own own_orderly.fit W.only.request (forwarded_from_in_use own W.only.request at) mine in cc)

      no_number : (place : ℕ) → number_at c place (in_use own) ≡ None
      no_number place =
          ap (number_at c place) W.only.only
          ∙ ap (λ (b : Bool). let o : Option ℕ = if b && (W.only.request.place == place) then Some W.only.request.number else number_at c place [] in o) theirs

      no_answer : (write : ℕ → List ℕ → List ℕ) (o : Option Request) → answer_alone write c o m (in_use own) ≡ None
      no_answer write None = refl
      no_answer write (Some r) =
          elim (r.conn == c) as (λ b. (let o : Option (List ℕ) = if b then numbered write (number_at c r.place (in_use own)) m else None in o) ≡ None) [
            | true ↦ ap (λ (o : Option ℕ). numbered write o m) (no_number r.place)
            | false ↦ refl
          ]

      not_open : (is_present c past && (known_now s c past).opened) ≡ false
      not_open =
          let step : (b : Bool) → is_present c past ≡ b → (b && (known_now s c past).opened) ≡ false =
          λ b. elim b as (λ b. is_present c past ≡ b → (b && (known_now s c past).opened) ≡ false) [
            | true ↦ λ there. subst (λ (modem : ModemState). MayBeOpen modem (known_now s c past)) W.all (A.orderly.order.clients c there)
            | false ↦ λ gone. refl
          ]
          in step (is_present c past) refl

      not_told : (uuid : List ℕ) (cid : ℕ) → contains c (receivers s uuid cid past) ≡ false
      not_told uuid cid =
          contains-filter c (λ (d : ℕ). wants (list_of s d past) uuid cid) (open_ones s past)
          ∙ ap (λ (b : Bool). b && wants (list_of s c past) uuid cid) (contains-filter c (λ (d : ℕ). (known_now s d past).opened) (present past) ∙ not_open)

      nothing_heard : (heard : Heard) → heard_alone heard s c m past own ≡ None
      nothing_heard IsDone = no_answer in_fragments (first_answered_by IsDone m (in_use past))
      nothing_heard IsError = no_answer with_number (first_answered_by IsError m (in_use past))
      nothing_heard IsIndication = ap (λ (b : Bool). message_if b (in_fragments 0 m)) (not_told (uuid_of (body_of m)) (cid_of (body_of m)))
      nothing_heard IsOpenDone = refl
      nothing_heard IsNeither = refl

      still_opening : is_waiting s c (part c past) ≡ true → part c after ≡ part c past → Stands s c after own
      still_opening waiting same = still_waits_alike past after own own W after_orderly (ap (is_waiting s c) same ∙ waiting) fewer_after refl refl refl

    -- ---- where it ends no opening that the client waits for ----

    module _ (came : CameAs s.longest_body m) (there : is_away s.starts_away past ≡ false) (unmoved : Unmoved s R c client m past) where
      alike_now : IsHeardAlike s R c client past own A.orderly own_orderly A.same m (heard_alone (heard_as m) s c m past own)
      alike_now = heard_alike s R c client past own A.orderly own_orderly A.same m came unmoved

      by_heard : is_waiting s c (part c past) ≡ false → (o : Option (List ℕ)) → IsHeardAlike s R c client past own A.orderly own_orderly A.same m o → Alike s c after (alone.meet_bytes (mbim_protocol s) (mbim_alone s) o solo) bytes
      by_heard none None same = passes_alone s c past after solo bytes A after_orderly same (keeps_time m past A.orderly) (λ stays. stands_unheard none stays)
      by_heard none (Some x) told =
          let start = there_alone solo (away_alike past solo bytes A ∙ there) in
          let T = speaking.speaks s c R client solo start.0 x told.whole (subst (IsQuietThere s c) start.1 A.quiet) told.one A.may A.rests start.1 in
          alike_settled s c after (hear_modem s told.whole T.before) (alone.meet_bytes (mbim_protocol s) (mbim_alone s) (Some x) solo) bytes after_orderly T.settled T.may T.quiet (T.sent ∙ A.sent)
          (told.same T.before T.orderly T.like.same T.like.in_use)
          (keeps_time m past A.orderly ∙ A.time ∙ sym T.like.time ∙ sym (keeps_time told.whole T.before T.orderly))
          (λ stays. stands_behind told.whole T.before T.orderly T.like none stays)

      pub unmoved_alike : Alike s c after (alone.meet_bytes (mbim_protocol s) (mbim_alone s) (heard_alone (heard_as m) s c m past own) solo) bytes
      unmoved_alike = by (is_waiting s c (part c past)) refl
        where
          by : (b : Bool) → is_waiting s c (part c past) ≡ b → Alike s c after (alone.meet_bytes (mbim_protocol s) (mbim_alone s) (heard_alone (heard_as m) s c m past own) solo) bytes
          by false none = by_heard none (heard_alone (heard_as m) s c m past own) alike_now
          by true waiting =
              let W = waits_alike past solo bytes A waiting in
              let nothing : heard_alone (heard_as m) s c m past own ≡ None = nothing_heard W (heard_as m) in
              let same : part c after ≡ part c past = subst (IsHeardAlike s R c client past own A.orderly own_orderly A.same m) nothing alike_now in
              subst (λ (o : Option (List ℕ)). Alike s c after (alone.meet_bytes (mbim_protocol s) (mbim_alone s) o solo) bytes) (sym nothing)
              (passes_alone s c past after solo bytes A after_orderly same (keeps_time m past A.orderly) (λ stays. still_opening W waiting same))

    -- ---- where it ends the opening that the client waits for ----

    -- the request that it answers is the proxy's own to open, and waits
    record AnswersOpen : Type 0 where
      request : Request
      found : answered_by (heard_as m) m past ≡ Some request
      opens : is_own_open request ≡ true
      pends : is_pending request past ≡ true

    answers_open : (o : Option Request) → answered_by (heard_as m) m past ≡ o → is_waiting_open o past ≡ true → AnswersOpen
    answers_open None found is = absurd (let clash : false ≡ true = is in cc)
    answers_open (Some r) found is = let both = and_parts (is_own_open r) (is_pending r past) is in record { request = r; found = found; opens = both.0; pends = both.1 }

    -- how such a message is heard
    record HeardSo : Type 0 where
      message : List ℕ
      said_is : (if is_kind OpenDone m then m else failed) ≡ message
      tells : TellsStatus (opening_status m) message

    short_tells : (message : List ℕ) → heard_as message ≡ IsOpenDone → length message ≡ 16 → IsMessage size_of message → TellsStatus (opening_status message) message
    short_tells message heard short is = record {
      said = λ n below. (short_is_said s n message below short is).one;
      heard = λ n below. (short_is_said s n message below short is).same.heard ∙ heard;
      number = λ n below. (short_is_said s n message below short is).same.number_is;
      status_is = λ n below. (short_is_said s n message below short is).status;
    }

    module _ (came : CameAs s.longest_body m) (N : AnswersOpen) where
      responds_open : (heard : Heard) → answered_by heard m past ≡ Some N.request → (hear_as s heard m past ≡ respond s (Some N.request) m past) × (Contains (in_use past) N.request × (is_answered_by heard m N.request ≡ true))
      responds_open IsDone found = (ap (λ (o : Option Request). respond s o m past) found, found_is (is_answered_by IsDone m) (in_use past) N.request found)
      responds_open IsOpenDone found = (ap (λ (o : Option Request). respond s o m past) found, found_is (is_answered_by IsOpenDone m) (in_use past) N.request found)
      responds_open IsError found = (ap (λ (o : Option Request). respond s o m past) found, found_is (is_answered_by IsError m) (in_use past) N.request found)
      responds_open IsIndication found = absurd (cc)
      responds_open IsNeither found = absurd (cc)

      heard_so : (heard : Heard) → heard_as m ≡ heard → answered_by heard m past ≡ Some N.request → HeardSo
      heard_so IsDone is found =
          absurd
          (let answers = (responds_open IsDone found).1.1 in
          let command = (and_parts (N.request.number == number_of m) (not (is_own_open N.request)) answers).1 in
          let clash : false ≡ true = sym (ap not N.opens) ∙ command in cc)
      heard_so IsOpenDone is found =
          let S = opened_short s.longest_body m came is in
          record { message = m; said_is = ap (λ (b : Bool). let l : List ℕ = if b then m else failed in l) (opens_when_done m is); tells = short_tells m is S.short S.message }
      heard_so IsError is found =
          let other : is_kind OpenDone m ≡ false = opens_not_in_error m is in
          let status : FAILURE ≡ opening_status m = sym (ap (λ (b : Bool). if b then u32_at m 12 else FAILURE) other) in
          record { message = failed; said_is = ap (λ (b : Bool). let l : List ℕ = if b then m else failed in l) other; tells = subst (λ (n : ℕ). TellsStatus n failed) status failed_tells }
      heard_so IsIndication is found = absurd (cc)
      heard_so IsNeither is found = absurd (cc)

      opening_alike : is_waiting s c (part c past) ≡ true → Alike s c after (alone.meet_bytes (mbim_protocol s) (mbim_alone s) (answer_to (own_open_in own) (if is_kind OpenDone m then m else failed)) solo) bytes
      opening_alike waiting =
          let W = waits_alike past solo bytes A waiting in
          let D = responds_open (heard_as m) N.found in
          let H = heard_so (heard_as m) refl N.found in
          let P = A.orderly in
          let status : ℕ = opening_status m in
          let at : Contains (pending past) N.request = waits s.limits past N.request P.sound (forwarded_from_in_use past N.request D.1.0) N.pends in
          let F = open_waits s (now_in past) N.request past refl P.order.requests at N.opens in
          let is : after ≡ answer_or_late s true N.request m past = D.0 ∙ ap (λ (b : Bool). answer_or_late s b N.request m past) N.pends in
          let same : part c after ≡ opens_with s c client status (part c past) = ap (part c) is ∙ open_answered-part s c client N.request past P.fit.once P.order N.opens F.own F.modem F.only m in
          let state_after : now_in after ≡ then_is s c client status =
          ap now_in is
          ∙ ap (λ (b : Bool). now_in (let facts : List Fact = if b then end_opening s status (note s (Answered N.request m) past) else note s (Answered N.request m) past in facts)) N.opens
          ∙ opened_state s status (note s (Answered N.request m) past)
          in
          let T = opens_alone past solo A.same A.time A.may A.rests A.quiet W.alone W.only.request W.only.opens W.only.only W.only.waits status H.message H.tells in
          subst (λ (l : List ℕ). Alike s c after (alone.meet_bytes (mbim_protocol s) (mbim_alone s) (answer_to (own_open_in own) l) solo) bytes) (sym H.said_is)
          (alike_settled s c after T.facts (alone.meet_bytes (mbim_protocol s) (mbim_alone s) (answer_to (own_open_in own) H.message) solo) bytes after_orderly T.settled T.may T.quiet (T.sent ∙ A.sent)
          (same ∙ sym T.same) (keeps_time m past P ∙ sym T.time)
          (λ stays. both_opened s c client status after T.facts after_orderly state_after T.state T.in_use))

    -- ---- each message ----

    pub says_alike : CameAs s.longest_body m → is_away s.starts_away past ≡ false → Alike s c after (alone.meet_bytes (mbim_protocol s) (mbim_alone s) (hears s c (ModemSays m) past own) solo) bytes
    says_alike came there = by (is_waiting s c (part c past)) (is_waiting_open (answered_by (heard_as m) m past) past) refl refl
      where
        hears_is : (b o : Bool) → is_waiting s c (part c past) ≡ b → is_waiting_open (answered_by (heard_as m) m past) past ≡ o
            → hears s c (ModemSays m) past own ≡ hears_if (let l : Option (List ℕ) = if b then message_if o (if is_kind OpenDone m then m else failed) else None in l) s c (ModemSays m) past own
        hears_is b o waiting ends =
            ap (λ (t : Bool). hears_if (let l : Option (List ℕ) = if t then message_if (is_waiting_open (answered_by (heard_as m) m past) past) (if is_kind OpenDone m then m else failed) else None in l) s c (ModemSays m) past own)
            (waiting-part s c past A.orderly.fit.once ∙ waiting)
            ∙ ap (λ (t : Bool). hears_if (let l : Option (List ℕ) = if b then message_if t (if is_kind OpenDone m then m else failed) else None in l) s c (ModemSays m) past own) ends

        by : (b o : Bool) → is_waiting s c (part c past) ≡ b → is_waiting_open (answered_by (heard_as m) m past) past ≡ o → Alike s c after (alone.meet_bytes (mbim_protocol s) (mbim_alone s) (hears s c (ModemSays m) past own) solo) bytes
        by false o waiting ends = subst (λ (l : Option (List ℕ)). Alike s c after (alone.meet_bytes (mbim_protocol s) (mbim_alone s) l solo) bytes) (sym (hears_is false o waiting ends)) (unmoved_alike came there (inl waiting))
        by true false waiting ends = subst (λ (l : Option (List ℕ)). Alike s c after (alone.meet_bytes (mbim_protocol s) (mbim_alone s) l solo) bytes) (sym (hears_is true false waiting ends)) (unmoved_alike came there (inr ends))
        by true true waiting ends =
            subst (λ (l : Option (List ℕ)). Alike s c after (alone.meet_bytes (mbim_protocol s) (mbim_alone s) l solo) bytes) (sym (hears_is true true waiting ends))
            (opening_alike came (answers_open (answered_by (heard_as m) m past) refl ends) waiting)
