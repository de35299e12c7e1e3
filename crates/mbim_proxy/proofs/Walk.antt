-- What each part of an MBIM proxy adds to its history: one lemma for each, on which all laws of the history rest.
use Rattle.std.proofs.Common.{◌≡◌, ℕ, ◌+◌, Bool, true, false, not, if◌then◌else◌, List, [], ◌∷◌, refl, ap, sym, inl, inr, All, Contains, Option, Some, None}
use Rattle.std.proofs.lemmas.Bool.{eq-eqb, and_parts}
use Rattle.std.proofs.lemmas.List.Elements.{All-filter}
use Rattle.kit_bytes.specs.Subscriptions.{Pair}
use Rattle.kit_bytes.specs.Indications.{wants}
use Rattle.mbim_frame.specs.declared.status.TheConstants.{FAILURE}
use Rattle.mbim_frame.specs.declared.kind.MessageKind.TheVariants.{Open}
use Rattle.mbim_frame.specs.Head.{is_kind}
use Rattle.mbim_frame.specs.Fragment.{body_of}
use Rattle.mbim_frame.specs.Bodies.{uuid_of, cid_of}
use Rattle.proxy_history.specs.Items.{Says, ModemSays, ModemIsLost}
use Rattle.proxy_history.specs.Facts.{Fact, Request, Verdict, Forward, Waits, NoRoom, Ended, Judged, Forwarded, Answered, Late, Indicated, Stray, OpeningEnded, SessionsClosed, ListSent}
use Rattle.proxy_history.specs.Decision.{Decision, Replies, Forwards}
use Rattle.proxy_history.specs.Connections.{present, message_count}
use Rattle.proxy_history.specs.Requests.{in_use, is_pending, last_number}
use Rattle.proxy_history.specs.Modem.{to_modem, modem_taken_count}
use Rattle.proxy_history.specs.Wording.{Wording}
use Rattle.proxy_history.specs.Noting.{receivers_of}
use Rattle.proxy_history.specs.Sound.{IsPresent, IsParty, IsSound}
use Rattle.proxy_history.specs.Adding.{MayAdd, MayRefuse, MayTick, MayFinish, Soundly, AddsSoundly, IsOrderly}
use Rattle.proxy_history.specs.Orderly.{Anything}
use Rattle.proxy_history.proofs.Sound.{each_contained, party_from_present, forwarded_from_in_use, waits}
use Rattle.proxy_history.proofs.Counting.{counted}
use Rattle.proxy_history.proofs.Adding.{none, further, either, added, judged, noted, noted_by, extends_sound}
use Rattle.proxy_history.proofs.Found.{found_is}
use Rattle.mbim_proxy.specs.Setup.{Setup}
use Rattle.mbim_proxy.specs.Known.{Known}
use Rattle.mbim_proxy.specs.Step.{blank, known_now}
use Rattle.mbim_proxy.specs.Text.{mbim_wording, note}
use Rattle.mbim_proxy.specs.ModemStates.{is_own_open, state, is_shut}
use Rattle.mbim_services.specs.SubscribeLists.{is_same_list}
use Rattle.mbim_proxy.specs.Lists.{open_ones, list_of, receivers, waiting, merged, last_list}
use Rattle.mbim_proxy.specs.Forwarding.{own_open, own_subscribe, number_for, request_of, forward}
use Rattle.mbim_proxy.specs.Clients.{command_message, forward_for, judge, decision_for}
use Rattle.mbim_proxy.specs.FromModem.{Heard, IsDone, IsOpenDone, IsError, IsIndication, IsNeither, heard_as, opening_status, end_opening_by, is_answered_by, first_answered_by, answer_or_late, respond, indicate, hear_as}
use Rattle.mbim_proxy.specs.OwnList.{is_free, is_wanted, number_of_list, send_under}
use Rattle.mbim_proxy.specs.Asked.{IsAsked}
use Rattle.mbim_proxy.specs.History.{mbim_protocol}
use Rattle.mbim_proxy.proofs.Lengths.{finds_room}
use Rattle.mbim_proxy.proofs.Verdicts.{CanGo, can_go, given_if, WhatGoes, what_goes}
use Rattle.mbim_proxy.proofs.Waiting.{waiting_are_present}

-- `Asks` is what each request has, of all that it has
module _ (s : Setup) (Asks : Request → List Fact → Type 0) (asked : (r : Request) (past : List Fact) → IsAsked s r past → Asks r past) where
  abbrev Sound : List Fact → Type 0
  Sound past = IsSound s.limits past

  abbrev May : (Fact → List Fact → Type 0) → Fact → List Fact → Type 0
  May M fact past = Soundly (mbim_protocol s) Asks M fact past

  abbrev AddsOf : (Fact → List Fact → Type 0) → List Fact → List Fact → Type 0
  AddsOf M past after = AddsSoundly (mbim_protocol s) Asks M past after

  abbrev wording : Wording Known
  wording = mbim_wording s

  -- ---- what is queued for the modem ----

  module _ (M : Fact → List Fact → Type 0) where
    forwards : (c : ℕ) (m : List ℕ) (n : ℕ) (past : List Fact) → IsParty c past → CanGo s m n past
        → Asks (request_of s c m n past) past → M (Forwarded (request_of s c m n past)) past → AddsOf M past (forward s c m n past)
    forwards c m n past party can asks may =
        added s.limits wording (May M) (Forwarded (request_of s c m n past)) past refl (record { serial = refl; sender = party; number = can.number }, may, (finds_room s n m past can.room, asks))

  -- ---- the end of an opening ----

  module _ (M : Fact → List Fact → Type 0) (ends : (c : ℕ) (before : List Fact) → IsPresent c before → May M (Ended c NoRoom) before) (may_end : (status : ℕ) (receivers : List ℕ) (past : List Fact) → M (OpeningEnded status receivers) past) where
    ends_opening : (r : Request) (status : ℕ) (past : List Fact) → Sound past → AddsOf M past (end_opening_by s r status past)
    ends_opening r status past sound =
        either s.limits wording (May M) (is_own_open r) past _ past
        (λ own. noted s.limits wording (May M) ends (OpeningEnded status (waiting s past)) past (waiting_are_present s past, may_end status (waiting s past) past, tt))
        (λ other. none s.limits wording (May M) past)

    noted_then_ends : (fact : Fact) (r : Request) (status : ℕ) (past : List Fact) → Sound past → May M fact past → AddsOf M past (end_opening_by s r status (note s fact past))
    noted_then_ends fact r status past sound may =
        let one = noted s.limits wording (May M) ends fact past may in
        further s.limits wording (May M) past (note s fact past) _ one (ends_opening r status (note s fact past) (extends_sound s.limits wording (May M) (λ added before m. m.0) past (note s fact past) one.extends sound))

  -- ---- clients ----

  module _ (c : ℕ) (m : List ℕ) where
    abbrev By : Fact → List Fact → Type 0
    By fact past = May (MayAdd (Says c m)) fact past

    abbrev Adding : List Fact → List Fact → Type 0
    Adding past after = AddsOf (MayAdd (Says c m)) past after

    abbrev judged_as : Verdict → List Fact → List Fact
    judged_as verdict past = Judged c (message_count c past + 1) m verdict ∷ past

    -- where a reply finds no room, the sender ends
    replied : (verdict : Verdict) (past : List Fact) → IsPresent c past → Adding past (note s (Judged c (message_count c past + 1) m verdict) past)
    replied verdict past there = noted_by s.limits wording By (Judged c (message_count c past + 1) m verdict) past ((λ before there. (there, refl, tt)), tt) (there, (refl, refl), tt)

    carries : (past : List Fact) → IsPresent c past → (n : ℕ) → Asks (request_of s c (command_message s (known_now s c past) m) n (judged_as Forward past)) (judged_as Forward past)
    unfolding present message_count
    carries past there n =
        asked _ _ (record {
          space = refl;
          deadline = refl;
          carries = inl (record {
            sender = there;
            message = m;
            before = past;
            judged = ap (λ (place : ℕ). Judged c place m Forward ∷ past) (sym (ap (λ (b : Bool). if b then message_count c past + 1 else message_count c past) (eq-eqb c c refl)));
            place = counted blank c (judged_as Forward past) there;
            command = refl;
          });
        })

    -- what is judged takes no number and no room
    still : (sent : List ℕ) (n : ℕ) (verdict : Verdict) (past : List Fact) → CanGo s sent n past → CanGo s sent n (judged_as verdict past)
    unfolding in_use last_number to_modem modem_taken_count
    still sent n verdict past can = record { room = can.room; number = can.number }

    sent_on : (n : ℕ) (past : List Fact) → IsPresent c past → CanGo s (command_message s (known_now s c past) m) n past
        → Adding (judged_as Forward past) (forward s c (command_message s (known_now s c past) m) n (judged_as Forward past))
    unfolding present
    sent_on n past there can =
        let sent : List ℕ = command_message s (known_now s c past) m in
        forwards (MayAdd (Says c m)) c sent n (judged_as Forward past) (party_from_present c past there) (still sent n Forward past can) (carries past there n) (inl refl)

    opens : (n : ℕ) (past : List Fact) → is_shut (state s.starts_away past) ≡ true → CanGo s (own_open s) n past → Adding (judged_as Waits past) (forward s 0 (own_open s) n (judged_as Waits past))
    unfolding state
    opens n past shut can =
        forwards (MayAdd (Says c m)) 0 (own_open s) n (judged_as Waits past) refl (still (own_open s) n Waits past can)
        (asked _ _ (record { space = refl; deadline = refl; carries = inr (inl (record { own = refl; shut = shut; message = refl })) })) (inr refl)

    goes : (n : ℕ) (for_opening : Bool) (past : List Fact) → IsPresent c past → WhatGoes s (known_now s c past) m n past for_opening → Adding past (forward_for for_opening s (known_now s c past) c m n past)
    goes n true past there what =
        further s.limits wording By past (judged_as Waits past) _
        (judged s.limits wording By c (message_count c past + 1) m Waits past (λ entries. refl) (there, (refl, refl), tt))
        (opens n past what.0 what.1)
    goes n false past there what =
        further s.limits wording By past (judged_as Forward past) _
        (judged s.limits wording By c (message_count c past + 1) m Forward past (λ entries. refl) (there, (refl, refl), tt))
        (sent_on n past there what)

    judges : (decision : Decision) (past : List Fact) → IsPresent c past → decision_for s (known_now s c past) c m past ≡ decision → Adding past (judge s (known_now s c past) c m decision past)
    judges (Replies verdict) past there is = replied verdict past there
    judges (Forwards n) past there is = goes n (is_kind Open m) past there (what_goes s (known_now s c past) m n past c is)

  -- ---- the modem ----

  module _ (m : List ℕ) where
    abbrev BySaying : Fact → List Fact → Type 0
    BySaying fact past = May (MayAdd (ModemSays m)) fact past

    abbrev Hearing : List Fact → List Fact → Type 0
    Hearing past after = AddsOf (MayAdd (ModemSays m)) past after

    ends : (c : ℕ) (before : List Fact) → IsPresent c before → BySaying (Ended c NoRoom) before
    ends c before there = (there, tt, tt)

    one : (fact : Fact) (past : List Fact) → receivers_of fact ≡ [] → BySaying fact past → Hearing past (fact ∷ past)
    one fact past silent may = added s.limits wording BySaying fact past silent may

    answers_or_late : (waiting : Bool) (r : Request) (past : List Fact) → Sound past → Contains (in_use past) r → is_pending r past ≡ waiting → Hearing past (answer_or_late s waiting r m past)
    answers_or_late true r past sound at is =
        noted_then_ends (MayAdd (ModemSays m)) ends (λ status receivers before. tt) (Answered r m) r (opening_status m) past sound (waits s.limits past r sound (forwarded_from_in_use past r at) is, refl, tt)
    answers_or_late false r past sound at is = one (Late r) past refl (at, tt, tt)

    responds : (found : Option Request) (heard : Heard) (past : List Fact) → Sound past → first_answered_by heard m (in_use past) ≡ found → Hearing past (respond s found m past)
    responds None heard past sound is = one Stray past refl (tt, tt, tt)
    responds (Some r) heard past sound is = answers_or_late (is_pending r past) r past sound (found_is (is_answered_by heard m) (in_use past) r is).0 refl

    -- the receivers are there
    receivers_present : (uuid : List ℕ) (cid : ℕ) (past : List Fact) → All (λ c. IsPresent c past) (receivers s uuid cid past)
    receivers_present uuid cid past =
        All-filter (λ c. wants (list_of s c past) uuid cid) (λ (c : ℕ). IsPresent c past) (open_ones s past)
        (All-filter (λ c. (known_now s c past).opened) (λ (c : ℕ). IsPresent c past) (present past) (each_contained (present past)))

    tells : (past : List Fact) → Hearing past (indicate s m past)
    tells past =
        let uuid : List ℕ = uuid_of (body_of m) in
        let cid : ℕ = cid_of (body_of m) in
        noted s.limits wording BySaying ends (Indicated (blank m) (receivers s uuid cid past)) past (receivers_present uuid cid past, tt, tt)

    hears : (heard : Heard) (past : List Fact) → Sound past → Hearing past (hear_as s heard m past)
    hears IsDone past sound = responds (first_answered_by IsDone m (in_use past)) IsDone past sound refl
    hears IsOpenDone past sound = responds (first_answered_by IsOpenDone m (in_use past)) IsOpenDone past sound refl
    hears IsError past sound = responds (first_answered_by IsError m (in_use past)) IsError past sound refl
    hears IsIndication past sound = tells past
    hears IsNeither past sound = one Stray past refl (tt, tt, tt)

  -- ---- the end of an event ----

  sends : (number : Option ℕ) (past : List Fact) → number_of_list s (merged s past) past ≡ number → AddsOf MayFinish past (send_under s (merged s past) number past)
  sends None past is = none s.limits wording (May MayFinish) past
  sends (Some n) past is =
      let list : List Pair = merged s past in
      let given = given_if (is_wanted s list past) (number_for s (own_subscribe list) past) n is in
      let free = (and_parts (is_free s past) (not (is_same_list list (last_list past))) given.0).0 in
      let sent : List Fact = forward s 0 (own_subscribe list) n past in
      further s.limits wording (May MayFinish) past sent _
      (forwards MayFinish 0 (own_subscribe list) n past refl (can_go s (own_subscribe list) n past given.1)
      (asked _ _ (record { space = refl; deadline = refl; carries = inr (inr (record { own = refl; free = free; message = refl })) })) refl)
      (added s.limits wording (May MayFinish) (ListSent list) sent refl (tt, tt, tt))

  -- ---- the whole protocol ----

  orderly_with : IsOrderly (mbim_protocol s) Asks
  orderly_with = record {
    client = λ c m past sound there. judges c m _ past there refl;
    modem = λ m past sound. hears m (heard_as m) past sound;
    refusal = λ why r past may sound. noted_then_ends (MayRefuse why) (λ c before there. (there, tt, tt)) (λ status receivers before. tt) why r FAILURE past sound may;
    order = λ requests r at. at;
    loss = λ past sound. added s.limits wording (May (MayAdd ModemIsLost)) (SessionsClosed (present past)) past refl (each_contained (present past), tt, tt);
    clock = λ past sound. none s.limits wording (May MayTick) past;
    finish = λ past sound. sends _ past refl;
  }

abbrev pub Asks : Setup → Request → List Fact → Type 0
Asks s r past = IsAsked s r past

pub orderly : (s : Setup) → IsOrderly (mbim_protocol s) (Asks s)
orderly s = orderly_with s (Asks s) (λ r past is. is)

pub orderly_with_anything : (s : Setup) → IsOrderly (mbim_protocol s) Anything
orderly_with_anything s = orderly_with s Anything (λ r past is. tt)
