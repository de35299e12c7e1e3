-- What facts change of the modem's state, of the requests that wait, and of whether a client waits for the modem to open.
use Rattle.std.proofs.Common.{◌≡◌, ℕ, ◌≤◌, Bool, true, false, ◌&&◌, ◌==◌, is_some, if◌then◌else◌, List, [], ◌∷◌, refl, ap, sym, ◌∙◌, subst, ⊎_elim, Contains, Option, Some, None}
use Rattle.std.specs.List.{AllByRecursion, list_any}
use Rattle.std.proofs.lemmas.Bool.{and_parts, or_right}
use Rattle.kit_bytes.proofs.Lists.{all_filter, all_push}
use Rattle.mbim_frame.specs.declared.kind.MessageKind.TheVariants.{Open}
use Rattle.mbim_frame.specs.declared.status.TheConstants.{SUCCESS}
use Rattle.mbim_frame.specs.Head.{is_kind}
use Rattle.mbim_frame.specs.Fragment.{body_of}
use Rattle.mbim_frame.specs.Bodies.{uuid_of, cid_of}
use Rattle.proxy_history.specs.Items.{Item, Says, ModemSays, ModemIsLost, ModemReturns, ClockShows, ModemTakes}
use Rattle.proxy_history.specs.Facts.{Fact, Request, NotAdmitted, BadStream, NoRoom, Leaving, Admitted, Ended, Judged, Taken, Forwarded, Answered, IdHeld, Late, Expired, Aborted, Indicated, OpeningEnded, SessionsClosed, Reset, ModemLost, ModemReturned, ModemTaken}
use Rattle.proxy_history.specs.Connections.{contains, present, is_present}
use Rattle.proxy_history.specs.Requests.{in_use, pending, is_pending}
use Rattle.proxy_history.specs.Modem.{to_modem, modem_taken_count, modem_queue}
use Rattle.proxy_history.specs.Adding.{MayAdd, MayAsk}
use Rattle.proxy_history.specs.View.{Entry, Said, Response, Refused, Indication, OpenedWith, Shut, Taking, End, HeldId, NoAnswer, entry_if, view}
use Rattle.proxy_history.specs.Wording.{told_by}
use Rattle.proxy_history.specs.Sound.{IsSound}
use Rattle.proxy_history.specs.History.{add_all}
use Rattle.proxy_history.proofs.Sound.{forwarded_from_in_use, waits}
use Rattle.proxy_history.proofs.Found.{found_is}
use Rattle.proxy_history.proofs.Folds.{at_end}
use Rattle.proxy_history.proofs.Walk.{MayAddStill, kept_by_items, kept_by_still_items, kept_at_end}
use Rattle.proxy_solo.proofs.Lists.{every, contains-push, contains-without}
use Rattle.proxy_solo.proofs.Elsewhere.{IsElsewhere}
use Rattle.mbim_proxy.specs.Setup.{Setup}
use Rattle.mbim_proxy.specs.Known.{Known}
use Rattle.mbim_proxy.specs.Step.{blank, view_of, known_from, known_now}
use Rattle.mbim_proxy.specs.Step as step
use Rattle.mbim_proxy.specs.Text.{note}
use Rattle.mbim_proxy.specs.ModemStates.{ModemState, IsAway, IsShut, IsOpening, IsReady, is_own_open, state}
use Rattle.mbim_proxy.specs.Lists.{receivers, waiting}
use Rattle.mbim_proxy.specs.Forwarding.{wire}
use Rattle.mbim_proxy.specs.FromModem.{Heard, IsDone, IsOpenDone, IsError, IsIndication, IsNeither, heard_as, opening_status, end_opening, is_answered_by, first_answered_by, answer_or_late, respond, hear_as, hear_modem}
use Rattle.mbim_proxy.specs.OwnList.{finish}
use Rattle.mbim_proxy.specs.Asked.{IsAsked}
use Rattle.mbim_proxy.specs.History.{mbim_protocol}
use Rattle.mbim_proxy.proofs.Walk.{Asks, orderly}
use Rattle.mbim_solo.specs.Openings.{MayBeOpen, IsInOrder}
use Rattle.mbim_solo.proofs.Openings.{entry_known, open_waits}
use Rattle.mbim_solo.proofs.Orders.{shut_is, note_state}
use Rattle.mbim_solo.proofs.Relation.{is_end_of}

-- ---- facts by which a request comes, and facts of the modem ----

abbrev pub asks : Fact → Bool
asks (Forwarded r) = true
asks _ = false

-- it moves the modem's state by itself
abbrev pub moves : Fact → Bool
moves (OpeningEnded status receivers) = true
moves ModemLost = true
moves ModemReturned = true
moves _ = false

pub fewer_wait : (Q : Request → Type 0) (fact : Fact) (past : List Fact) → asks fact ≡ false → AllByRecursion Q (pending past) → AllByRecursion Q (pending (fact ∷ past))
unfolding pending
fewer_wait Q (Forwarded r) past none all = absurd (cc)
fewer_wait Q (Answered r m) past none all = all_filter Q _ (pending past) all
fewer_wait Q (IdHeld r) past none all = all_filter Q _ (pending past) all
fewer_wait Q (Late r) past none all = all_filter Q _ (pending past) all
fewer_wait Q (Expired r) past none all = all_filter Q _ (pending past) all
fewer_wait Q (Aborted r) past none all = all_filter Q _ (pending past) all
fewer_wait Q (Ended d why) past none all = all_filter Q _ (pending past) all
fewer_wait Q Reset past none all = tt
fewer_wait Q ModemLost past none all = tt
fewer_wait Q _ past none all = all

pub fewer_in_use : (Q : Request → Type 0) (fact : Fact) (past : List Fact) → asks fact ≡ false → AllByRecursion Q (in_use past) → AllByRecursion Q (in_use (fact ∷ past))
unfolding in_use
fewer_in_use Q (Forwarded r) past none all = absurd (cc)
fewer_in_use Q (Answered r m) past none all = all_filter Q _ (in_use past) all
fewer_in_use Q (IdHeld r) past none all = all_filter Q _ (in_use past) all
fewer_in_use Q (Late r) past none all = all_filter Q _ (in_use past) all
fewer_in_use Q Reset past none all = tt
fewer_in_use Q ModemLost past none all = tt
fewer_in_use Q _ past none all = all

-- only what a client says brings a request before an event's end
abbrev pub speaks : Item → Bool
speaks (Says d m) = true
speaks _ = false

pub asking_alone : (item : Item) (fact : Fact) (past : List Fact) → speaks item ≡ false → MayAddStill item fact past → asks fact ≡ false
asking_alone (Says d m) _ past none may = absurd (cc)
asking_alone _ (Forwarded r) past none may = absurd may
asking_alone _ _ past none may = refl

-- only that, and the modem's takings, move what is queued for it
abbrev pub queues : Fact → Bool
queues (Forwarded r) = true
queues (ModemTaken count) = true
queues _ = false

abbrev pub takes : Item → Bool
takes (ModemTakes count) = true
takes _ = false

queueing_alone : (item : Item) (fact : Fact) (past : List Fact) → speaks item ≡ false → takes item ≡ false → MayAddStill item fact past → queues fact ≡ false
queueing_alone (Says d m) _ past silent none may = absurd (cc)
queueing_alone (ModemTakes count) _ past silent none may = absurd (cc)
queueing_alone _ (Forwarded r) past silent none may = absurd may
queueing_alone _ (ModemTaken count) past silent none may = absurd may
queueing_alone _ _ past silent none may = refl

-- ---- the end of a client ----

ends_more : (c : ℕ) (fact : Fact) (past : List Fact) → list_any (is_end_of c) past ≡ true → list_any (is_end_of c) (fact ∷ past) ≡ true
ends_more c fact past ended = or_right (is_end_of c fact) (list_any (is_end_of c) past) ended

-- ---- what the modem's state may become by what clients and the proxy do ----

abbrev pub MayBecome : ModemState → ModemState → Type 0
MayBecome IsShut IsOpening = Unit {0}
MayBecome IsAway IsAway = Unit {0}
MayBecome IsShut IsShut = Unit {0}
MayBecome IsOpening IsOpening = Unit {0}
MayBecome IsReady IsReady = Unit {0}
MayBecome _ _ = ⊥

pub becomes_itself : (modem : ModemState) → MayBecome modem modem
becomes_itself IsAway = tt
becomes_itself IsShut = tt
becomes_itself IsOpening = tt
becomes_itself IsReady = tt

becomes_then : (one two three : ModemState) → MayBecome one two → MayBecome two three → MayBecome one three
becomes_then IsAway IsAway three x y = y
becomes_then IsShut IsShut three x y = y
becomes_then IsOpening IsOpening three x y = y
becomes_then IsReady IsReady three x y = y
becomes_then IsShut IsOpening IsOpening x y = tt
becomes_then IsShut IsOpening _ x y = absurd y
becomes_then _ _ _ x y = absurd x

pub opening_stays : (modem : ModemState) → MayBecome IsOpening modem → modem ≡ IsOpening
opening_stays IsOpening may = refl
opening_stays _ may = absurd may

-- ---- and by what the modem does, or does not ----

abbrev pub MayEnd : ModemState → ModemState → Type 0
MayEnd IsOpening IsShut = Unit {0}
MayEnd IsOpening IsReady = Unit {0}
MayEnd IsAway IsAway = Unit {0}
MayEnd IsShut IsShut = Unit {0}
MayEnd IsOpening IsOpening = Unit {0}
MayEnd IsReady IsReady = Unit {0}
MayEnd _ _ = ⊥

pub ends_itself : (modem : ModemState) → MayEnd modem modem
ends_itself IsAway = tt
ends_itself IsShut = tt
ends_itself IsOpening = tt
ends_itself IsReady = tt

ends_opened : (opened : Bool) → MayEnd IsOpening (if opened then IsReady else IsShut)
ends_opened true = tt
ends_opened false = tt

-- a modem that isn't opening stays so
pub ends_still : (one two : ModemState) → (one ≡ IsOpening → ⊥) → MayEnd one two → two ≡ one
ends_still IsAway IsAway other may = refl
ends_still IsShut IsShut other may = refl
ends_still IsReady IsReady other may = refl
ends_still IsOpening _ other may = absurd (other refl)
ends_still _ _ other may = absurd may

module _ (s : Setup) where
  abbrev now_in : List Fact → ModemState
  now_in past = state s.starts_away past

  -- ---- a request ----

  -- only the proxy itself opens the modem, and only a shut one
  asked_shut : (r : Request) (past : List Fact) → IsAsked s r past → is_own_open r ≡ true → now_in past ≡ IsShut
  asked_shut r past asked opens =
      ⊎_elim (λ carries. absurd (let clash : false ≡ true = sym (ap (is_kind Open) carries.command) ∙ opens in cc))
      (λ own. ⊎_elim (λ it. shut_is (now_in past) it.shut) (λ subscribes. absurd (let clash : false ≡ true = sym (ap (is_kind Open) subscribes.message) ∙ opens in cc)) own) asked.carries

  asked_becomes : (r : Request) (past : List Fact) → IsAsked s r past → MayBecome (now_in past) (now_in (Forwarded r ∷ past))
  unfolding state
  asked_becomes r past asked = by (is_own_open r) refl
    where
      by : (b : Bool) → is_own_open r ≡ b → MayBecome (now_in past) (if b then IsOpening else now_in past)
      by true opens = subst (λ (modem : ModemState). MayBecome modem IsOpening) (sym (asked_shut r past asked opens)) tt
      by false other = becomes_itself (now_in past)

  -- each fact that isn't the modem's
  fact_becomes : (first : ModemState) (fact : Fact) (past : List Fact) → moves fact ≡ false → MayAsk (mbim_protocol s) (Asks s) fact past → MayBecome first (now_in past) → MayBecome first (now_in (fact ∷ past))
  unfolding state
  fact_becomes first (Forwarded r) past still asked may = becomes_then first (now_in past) (now_in (Forwarded r ∷ past)) may (asked_becomes r past asked.1)
  fact_becomes first (OpeningEnded status receivers) past still asked may = absurd (cc)
  fact_becomes first ModemLost past still asked may = absurd (cc)
  fact_becomes first ModemReturned past still asked may = absurd (cc)
  fact_becomes first _ past still asked may = may

  -- ---- the deadline of the proxy's own request to open ----

  abbrev pub OpensBy : ℕ → List Request → Type 0
  OpensBy time requests = AllByRecursion (λ r. is_own_open r ≡ true → r.deadline ≤ time) requests

  -- while the modem opens, no other such request comes
  fact_opens_by : (time : ℕ) (fact : Fact) (past : List Fact) → MayAsk (mbim_protocol s) (Asks s) fact past → now_in past ≡ IsOpening → OpensBy time (pending past) → OpensBy time (pending (fact ∷ past))
  unfolding pending
  fact_opens_by time (Forwarded r) past asked opening all =
      all_push (λ (q : Request). is_own_open q ≡ true → q.deadline ≤ time) (pending past) r all (λ opens. absurd (let clash : IsOpening ≡ IsShut = sym opening ∙ asked_shut r past asked.1 opens in cc))
  fact_opens_by time fact past asked opening all = fewer_wait (λ (q : Request). is_own_open q ≡ true → q.deadline ≤ time) fact past refl all

  -- ---- what clients and the proxy do ----

  pub record Onwards (past after : List Fact) : Type 0 where
    pub becomes : MayBecome (now_in past) (now_in after)
    pub opens_by : (time : ℕ) → now_in past ≡ IsOpening → OpensBy time (pending past) → OpensBy time (pending after)

  onwards_none : (past : List Fact) → Onwards past past
  onwards_none past = record { becomes = becomes_itself (now_in past); opens_by = λ time opening all. all }

  onwards_fact : (past : List Fact) (fact : Fact) (before : List Fact) → moves fact ≡ false → MayAsk (mbim_protocol s) (Asks s) fact before → Onwards past before → Onwards past (fact ∷ before)
  onwards_fact past fact before still asked O = record {
    becomes = fact_becomes (now_in past) fact before still asked O.becomes;
    opens_by =
        λ time opening all.
        fact_opens_by time fact before asked (opening_stays (now_in before) (subst (λ (modem : ModemState). MayBecome modem (now_in before)) opening O.becomes)) (O.opens_by time opening all);
  }

  elsewhere_still : (c : ℕ) (item : Item) → IsElsewhere c item → (fact : Fact) (past : List Fact) → MayAdd item fact past → moves fact ≡ false
  elsewhere_still c (ModemSays m) other _ past may = absurd other
  elsewhere_still c ModemIsLost other _ past may = absurd other
  elsewhere_still c ModemReturns other _ past may = absurd other
  elsewhere_still c (ClockShows time) other _ past may = absurd other
  elsewhere_still c _ other (OpeningEnded status receivers) past may = absurd may
  elsewhere_still c _ other ModemLost past may = absurd may
  elsewhere_still c _ other ModemReturned past may = absurd may
  elsewhere_still c _ other _ past may = refl

  pub elsewhere_onwards : (c : ℕ) (items : List Item) (past : List Fact) → AllByRecursion (IsElsewhere c) items → IsSound s.limits past → Onwards past (add_all (mbim_protocol s) items past)
  elsewhere_onwards c items past all sound =
      kept_by_items (mbim_protocol s) (Asks s) (orderly s) (Onwards past) (IsElsewhere c)
      (λ item other fact before follows may asked held. onwards_fact past fact before (elsewhere_still c item other fact before may) asked held) items past all sound (onwards_none past)

  pub end_onwards : (past : List Fact) → IsSound s.limits past → Onwards past (finish s past)
  end_onwards past sound =
      kept_at_end (mbim_protocol s) (Asks s) (orderly s) (Onwards past)
      (λ fact before follows may asked held. onwards_fact past fact before (at_end (λ f. moves f ≡ false) (λ r. refl) (λ list. refl) fact before may) asked held) past sound (onwards_none past)

  -- ---- who ended is ended ----

  not_before : (before after : Bool) → (before ≡ true → after ≡ true) → after ≡ false → before ≡ false
  not_before true after stays none = sym (stays refl) ∙ none
  not_before false after stays none = refl

  pub ended_before : (c : ℕ) (items : List Item) (past : List Fact) → IsSound s.limits past → list_any (is_end_of c) (add_all (mbim_protocol s) items past) ≡ false → list_any (is_end_of c) past ≡ false
  ended_before c items past sound none =
      not_before (list_any (is_end_of c) past) (list_any (is_end_of c) (add_all (mbim_protocol s) items past))
      (kept_by_items (mbim_protocol s) (Asks s) (orderly s) (λ after. list_any (is_end_of c) past ≡ true → list_any (is_end_of c) after ≡ true) (λ item. Unit {0})
      (λ item any fact before follows may asked held ended. ends_more c fact before (held ended)) items past (every (λ (item : Item). Unit {0}) (λ item. tt) items) sound (λ ended. ended)) none

  pub ended_before_end : (c : ℕ) (past : List Fact) → IsSound s.limits past → list_any (is_end_of c) (finish s past) ≡ false → list_any (is_end_of c) past ≡ false
  ended_before_end c past sound none =
      not_before (list_any (is_end_of c) past) (list_any (is_end_of c) (finish s past))
      (kept_at_end (mbim_protocol s) (Asks s) (orderly s) (λ after. list_any (is_end_of c) past ≡ true → list_any (is_end_of c) after ≡ true)
      (λ fact before follows may asked held ended. ends_more c fact before (held ended)) past sound (λ ended. ended)) none

  -- ---- what requests remain where none comes ----

  pub still_in_use : (Q : Request → Type 0) (items : List Item) (past : List Fact) → AllByRecursion (λ item. speaks item ≡ false) items → IsSound s.limits past → AllByRecursion Q (in_use past) → AllByRecursion Q (in_use (add_all (mbim_protocol s) items past))
  still_in_use Q items past silent sound all =
      kept_by_still_items (mbim_protocol s) (Asks s) (orderly s) (λ after. AllByRecursion Q (in_use after)) (λ past. refl) (λ item. speaks item ≡ false)
      (λ item other fact before follows may asked held. fewer_in_use Q fact before (asking_alone item fact before other may) held) items past silent sound all

  pub still_wait : (Q : Request → Type 0) (items : List Item) (past : List Fact) → AllByRecursion (λ item. speaks item ≡ false) items → IsSound s.limits past → AllByRecursion Q (pending past) → AllByRecursion Q (pending (add_all (mbim_protocol s) items past))
  still_wait Q items past silent sound all =
      kept_by_still_items (mbim_protocol s) (Asks s) (orderly s) (λ after. AllByRecursion Q (pending after)) (λ past. refl) (λ item. speaks item ≡ false)
      (λ item other fact before follows may asked held. fewer_wait Q fact before (asking_alone item fact before other may) held) items past silent sound all

  -- nothing waits for the modem where nothing did, and none comes
  fact_queues_not : (fact : Fact) (past : List Fact) → queues fact ≡ false → modem_queue (wire s) past ≡ [] → modem_queue (wire s) (fact ∷ past) ≡ []
  unfolding to_modem modem_taken_count
  fact_queues_not (Forwarded r) past none empty = absurd (cc)
  fact_queues_not (ModemTaken count) past none empty = absurd (cc)
  fact_queues_not ModemLost past none empty = refl
  fact_queues_not _ past none empty = empty

  pub still_empty : (items : List Item) (past : List Fact) → AllByRecursion (λ item. (speaks item ≡ false) × (takes item ≡ false)) items → IsSound s.limits past → modem_queue (wire s) past ≡ [] → modem_queue (wire s) (add_all (mbim_protocol s) items past) ≡ []
  still_empty items past silent sound empty =
      kept_by_still_items (mbim_protocol s) (Asks s) (orderly s) (λ after. modem_queue (wire s) after ≡ []) (λ past. refl) (λ item. (speaks item ≡ false) × (takes item ≡ false))
      (λ item other fact before follows may asked held. fact_queues_not fact before (queueing_alone item fact before other.0 other.1 may) held) items past silent sound empty

  -- ---- what the modem says ----

  status_opens : (status : ℕ) (receivers : List ℕ) (past : List Fact) → now_in (note s (OpeningEnded status receivers) past) ≡ (if status == SUCCESS then IsReady else IsShut)
  unfolding state
  status_opens status receivers past = note_state s (if status == SUCCESS then IsReady else IsShut) (OpeningEnded status receivers) past refl

  pub opened_state : (status : ℕ) (past : List Fact) → now_in (end_opening s status past) ≡ (if status == SUCCESS then IsReady else IsShut)
  opened_state status past = status_opens status (waiting s past) past

  answered_ends : (r : Request) (m : List ℕ) (past : List Fact) → IsInOrder s past → Contains (pending past) r → MayEnd (now_in past) (now_in (answer_or_late s true r m past))
  unfolding state
  answered_ends r m past I at = by (is_own_open r) refl
    where
      by : (b : Bool) → is_own_open r ≡ b → MayEnd (now_in past) (now_in (let after : List Fact = if b then end_opening s (opening_status m) (note s (Answered r m) past) else note s (Answered r m) past in after))
      by true opens =
          let O = open_waits s (now_in past) r past refl I.requests at opens in
          subst (λ (modem : ModemState). MayEnd modem (now_in (end_opening s (opening_status m) (note s (Answered r m) past)))) (sym O.modem)
          (subst (MayEnd IsOpening) (sym (opened_state (opening_status m) (note s (Answered r m) past))) (ends_opened (opening_status m == SUCCESS)))
      by false command = subst (MayEnd (now_in past)) (sym (note_state s (now_in past) (Answered r m) past refl)) (ends_itself (now_in past))

  responded_ends : (heard : Heard) (m : List ℕ) (past : List Fact) → IsSound s.limits past → IsInOrder s past → (found : Option Request) → first_answered_by heard m (in_use past) ≡ found → MayEnd (now_in past) (now_in (respond s found m past))
  unfolding state
  responded_ends heard m past sound I None is = ends_itself (now_in past)
  responded_ends heard m past sound I (Some r) is = by (is_pending r past) refl
    where
      by : (b : Bool) → is_pending r past ≡ b → MayEnd (now_in past) (now_in (answer_or_late s b r m past))
      by true waiting = answered_ends r m past I (waits s.limits past r sound (forwarded_from_in_use past r (found_is (is_answered_by heard m) (in_use past) r is).0) waiting)
      by false late = ends_itself (now_in past)

  heard_ends_as : (heard : Heard) (m : List ℕ) (past : List Fact) → IsSound s.limits past → IsInOrder s past → MayEnd (now_in past) (now_in (hear_as s heard m past))
  unfolding state
  heard_ends_as IsDone m past sound I = responded_ends IsDone m past sound I (first_answered_by IsDone m (in_use past)) refl
  heard_ends_as IsOpenDone m past sound I = responded_ends IsOpenDone m past sound I (first_answered_by IsOpenDone m (in_use past)) refl
  heard_ends_as IsError m past sound I = responded_ends IsError m past sound I (first_answered_by IsError m (in_use past)) refl
  heard_ends_as IsIndication m past sound I =
      let told : Fact = Indicated (blank m) (receivers s (uuid_of (body_of m)) (cid_of (body_of m)) past) in subst (MayEnd (now_in past)) (sym (note_state s (now_in past) told past refl)) (ends_itself (now_in past))
  heard_ends_as IsNeither m past sound I = ends_itself (now_in past)

  pub heard_ends : (m : List ℕ) (past : List Fact) → IsSound s.limits past → IsInOrder s past → MayEnd (now_in past) (now_in (hear_modem s m past))
  heard_ends m past sound I = heard_ends_as (heard_as m) m past sound I

  module _ (c : ℕ) where
    -- ---- whether the client waits for the modem to open ----

    abbrev pub waits_now : List Fact → Bool
    waits_now past = is_present c past && is_some (known_now s c past).waits

    none_with : (b : Bool) (entry : Entry) (entries : List Entry) (there : Bool) → ((known : Known) → is_some known.waits ≡ false → is_some (step.step s known entry).waits ≡ false)
        → (there && is_some (known_from s entries).waits) ≡ false → (there && is_some (known_from s (entry_if b entry entries)).waits) ≡ false
    none_with b entry entries there keeps none =
        ap (λ (k : Known). there && is_some k.waits) (entry_known s b entry entries)
        ∙ elim there as (λ t. (t && is_some (known_from s entries).waits) ≡ false → (t && is_some (let k : Known = if b then step.step s (known_from s entries) entry else known_from s entries in k).waits) ≡ false) [
          | true ↦ λ h. elim b as (λ b. is_some (let k : Known = if b then step.step s (known_from s entries) entry else known_from s entries in k).waits ≡ false) [ true ↦ keeps (known_from s entries) h | false ↦ h ]
          | false ↦ λ h. refl
        ] none

    abbrev judges : Fact → Bool
    judges (Judged d place m verdict) = d == c
    judges _ = false

    fact_waits_not : (fact : Fact) (past : List Fact) → judges fact ≡ false → waits_now past ≡ false → waits_now (fact ∷ past) ≡ false
    unfolding present view told_by
    fact_waits_not (Admitted d) past other none =
        ap (λ (t : Bool). t && is_some (known_from s (let l : List Entry = if d == c then [] else view_of c past in l)).waits) (contains-push c d (present past))
        ∙ elim (d == c) as (λ b. ((if b then true else is_present c past) && is_some (known_from s (let l : List Entry = if b then [] else view_of c past in l)).waits) ≡ false) [ true ↦ refl | false ↦ none ]
    fact_waits_not (Ended d NotAdmitted) past other none =
        ap (λ (t : Bool). t && is_some (known_from s (let l : List Entry = if d == c then End NotAdmitted ∷ [] else view_of c past in l)).waits) (contains-without c d (present past))
        ∙ elim (d == c) as (λ b. ((if b then false else is_present c past) && is_some (known_from s (let l : List Entry = if b then End NotAdmitted ∷ [] else view_of c past in l)).waits) ≡ false) [ true ↦ refl | false ↦ none ]
    fact_waits_not (Ended d BadStream) past other none =
        ap (λ (t : Bool). t && is_some (known_from s (entry_if (d == c) (End BadStream) (view_of c past))).waits) (contains-without c d (present past))
        ∙ elim (d == c) as (λ b. ((if b then false else is_present c past) && is_some (known_from s (entry_if b (End BadStream) (view_of c past))).waits) ≡ false) [ true ↦ refl | false ↦ none ]
    fact_waits_not (Ended d Leaving) past other none =
        ap (λ (t : Bool). t && is_some (known_from s (entry_if (d == c) (End Leaving) (view_of c past))).waits) (contains-without c d (present past))
        ∙ elim (d == c) as (λ b. ((if b then false else is_present c past) && is_some (known_from s (entry_if b (End Leaving) (view_of c past))).waits) ≡ false) [ true ↦ refl | false ↦ none ]
    fact_waits_not (Ended d NoRoom) past other none =
        ap (λ (t : Bool). t && is_some (known_now s c past).waits) (contains-without c d (present past))
        ∙ elim (d == c) as (λ b. ((if b then false else is_present c past) && is_some (known_now s c past).waits) ≡ false) [ true ↦ refl | false ↦ none ]
    fact_waits_not (Judged d place m verdict) past other none = ap (λ (b : Bool). is_present c past && is_some (known_from s (entry_if b (Said m verdict) (view_of c past))).waits) other ∙ none
    fact_waits_not (Taken d count) past other none = none_with (d == c) (Taking count) (view_of c past) (is_present c past) (λ known e. e) none
    fact_waits_not (Answered r m) past other none = none_with (r.conn == c) (Response r.place (blank m)) (view_of c past) (is_present c past) (λ known e. e) none
    fact_waits_not (IdHeld r) past other none = none_with (r.conn == c) (Refused r.place HeldId) (view_of c past) (is_present c past) (λ known e. e) none
    fact_waits_not (Expired r) past other none = none_with (r.conn == c) (Refused r.place NoAnswer) (view_of c past) (is_present c past) (λ known e. e) none
    fact_waits_not (Aborted r) past other none = none_with (r.conn == c) (Refused r.place NoAnswer) (view_of c past) (is_present c past) (λ known e. e) none
    fact_waits_not (Indicated m receivers) past other none = none_with (contains c receivers) (Indication m) (view_of c past) (is_present c past) (λ known e. e) none
    fact_waits_not (OpeningEnded status receivers) past other none = none_with (contains c receivers) (OpenedWith status) (view_of c past) (is_present c past) (λ known e. refl) none
    fact_waits_not (SessionsClosed receivers) past other none = none_with (contains c receivers) Shut (view_of c past) (is_present c past) (λ known e. e) none
    fact_waits_not _ past other none = none

    silent_judges_not : (item : Item) → speaks item ≡ false → (fact : Fact) (past : List Fact) → MayAdd item fact past → judges fact ≡ false
    silent_judges_not (Says d m) silent fact past may = absurd (cc)
    silent_judges_not _ silent (Judged d place m verdict) past may = absurd may
    silent_judges_not _ silent _ past may = refl

    -- who doesn't wait doesn't where no client says anything
    pub still_waits_not : (items : List Item) (past : List Fact) → AllByRecursion (λ item. speaks item ≡ false) items → IsSound s.limits past → waits_now past ≡ false → waits_now (add_all (mbim_protocol s) items past) ≡ false
    still_waits_not items past silent sound none =
        kept_by_items (mbim_protocol s) (Asks s) (orderly s) (λ after. waits_now after ≡ false) (λ item. speaks item ≡ false)
        (λ item other fact before follows may asked held. fact_waits_not fact before (silent_judges_not item other fact before may) held) items past silent sound none

    some_waits : (modem : ModemState) (known : Known) → MayBeOpen modem known → is_some known.waits ≡ true → modem ≡ IsOpening
    some_waits IsAway known may waits = absurd (let clash : true ≡ false = sym waits ∙ ap (λ (o : Option ℕ). is_some o) may.1 in cc)
    some_waits IsShut known may waits = absurd (let clash : true ≡ false = sym waits ∙ ap (λ (o : Option ℕ). is_some o) may.1 in cc)
    some_waits IsOpening known may waits = refl
    some_waits IsReady known may waits = absurd (let clash : true ≡ false = sym waits ∙ ap (λ (o : Option ℕ). is_some o) may in cc)

    -- who waits does so while the modem opens
    pub waits_in_opening : (past : List Fact) → IsInOrder s past → waits_now past ≡ true → now_in past ≡ IsOpening
    waits_in_opening past I waiting =
        let both = and_parts (is_present c past) (is_some (known_now s c past).waits) waiting in some_waits (now_in past) (known_now s c past) (I.clients c both.0) both.1
