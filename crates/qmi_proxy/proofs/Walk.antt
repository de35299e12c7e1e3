-- What each part of a QMI proxy adds to its history: one lemma for each, on which all laws of the history rest.
use Rattle.std.proofs.Common.{◌≡◌, ◌∙◌, ℕ, zero, suc, ◌+◌, ◌-◌, ◌≤◌, nat_le, cond, subst, inr, Bool, true, false, not, ◌&&◌, ◌==◌, if◌then◌else◌, List, [], ◌∷◌, length, refl, ap, sym, arith, All, Contains, filter, ⊎_elim, inl, Option, Some, None}
use Rattle.std.specs.List.{AllByRecursion}
use Rattle.std.proofs.lemmas.Bool.{eq-eqb}
use Rattle.std.proofs.lemmas.Bool.Decides.{nat_tests}
use Rattle.std.proofs.lemmas.List.Elements.{All-filter, All-contains, Contains-append_cases}
use Rattle.qmux_frame.specs.declared.kind.MessageKind.{MessageKind}
use Rattle.qmux_frame.specs.declared.kind.MessageKind.TheVariants as kind
use Rattle.qmux_frame.specs.Head.{is_control, cid_of, is_framed}
use Rattle.qmux_frame.specs.Reply.{with_number}
use Rattle.qmux_frame.specs.Kind.{framed_kind}
use Rattle.qmux_frame.specs.Control.{is_sync}
use Rattle.qmux_frame.proofs.Framed.{framed_long, numbered_length}
use Rattle.proxy_history.specs.Items.{Says, ModemSays, ModemIsLost}
use Rattle.proxy_history.specs.Facts.{Fact, Request, Verdict, Forward, Ended, NoRoom, Aborted, Judged, Forwarded, Answered, IdHeld, Late, Indicated, Stray, Granted, Freed, Reset}
use Rattle.proxy_history.specs.Decision.{Decision, Replies, Forwards}
use Rattle.proxy_history.specs.Connections.{present, message_count}
use Rattle.proxy_history.specs.Requests.{in_use, pending, is_pending, last_number, of_space}
use Rattle.proxy_history.specs.Modem.{now, to_modem, modem_taken_count, modem_queue}
use Rattle.proxy_history.specs.Wording.{Wording}
use Rattle.proxy_history.specs.Noting.{receivers_of}
use Rattle.proxy_history.specs.Noting as noting
use Rattle.proxy_history.specs.View.{Entry, Said, entry_if, view, said_count, said_at}
use Rattle.proxy_history.specs.Sound.{IsPresent, IsParty, IsSound, IsFreeFor}
use Rattle.proxy_history.specs.ClientIds.{KeptId, held, kept, holder_in, is_other}
use Rattle.proxy_history.proofs.Kept.{kept_are_nobodys}
use Rattle.proxy_history.specs.Adding.{MayAdd, MayRefuse, MayTick, MayFinish, Adds, Soundly, AddsSoundly, IsOrderly}
use Rattle.proxy_history.proofs.Lists.{Contains-filter_from}
use Rattle.proxy_history.proofs.Sound.{each_contained, party_from_present, forwarded_from_in_use, waits}
use Rattle.proxy_history.proofs.SoundLaws.{waiting_are_parties}
use Rattle.proxy_history.proofs.Counting.{counted}
use Rattle.proxy_history.proofs.Adding.{extends_sound, none, further, either, added, judged, noted, noted_by, adds_abort_all}
use Rattle.qmi_proxy.specs.Setup.{Setup}
use Rattle.qmi_proxy.specs.Spaces.{control_space, service_space}
use Rattle.qmi_proxy.specs.Limits.{qmi_limits, modem_outbox_limit}
use Rattle.qmi_proxy.specs.Messages.{uses_id, used_service, used_cid}
use Rattle.qmi_proxy.specs.OwnReplies.{is_open}
use Rattle.qmi_proxy.specs.Text.{qmi_wording, blank, view_of, note}
use Rattle.qmi_proxy.specs.Clients.{wire, has_room, forward, grant_if, judge, decision_as, request_of}
use Rattle.qmi_proxy.specs.Asked.{IsNewestMessage, IsAskedSo}
use Rattle.qmi_proxy.specs.Releases.{first_due, nearer, is_before, number_if, own_number, number_for_own, own_request, release_of, releases_one, releases, release_due, freed_if}
use Rattle.qmi_proxy.specs.FromModem.{IdChange, NoChange, Grants, Collides, Frees, id_change, holder_of_brought, answer, answer_to, answer_or_late, respond, first_answered_by, in_expiry_order, refuse, abort_all, receivers, tell, indicate, hear_as}
use Rattle.qmi_proxy.specs.History.{qmi_protocol}
use Rattle.qmi_proxy.proofs.Answered.{found_is, change_free}
use Rattle.qmi_proxy.proofs.Verdicts.{CanGo, can_go, used_id_is_free}

-- no other requests are refused than those that are to be
pub only_those : (requests : List Request) (r : Request) → Contains (in_expiry_order requests) r → Contains requests r
only_those requests r at =
    ⊎_elim (Contains-filter_from (λ (q : Request). q.space == control_space) requests r) (Contains-filter_from (λ (q : Request). q.space == service_space) requests r)
    (Contains-append_cases (of_space control_space requests) (of_space service_space requests) r at)

module _ (s : Setup) where
  abbrev pub Asks : Request → List Fact → Type 0
  Asks r past = IsAskedSo s r past

  abbrev Sound : List Fact → Type 0
  Sound past = IsSound qmi_limits past

  abbrev May : (Fact → List Fact → Type 0) → Fact → List Fact → Type 0
  May M fact past = Soundly (qmi_protocol s) Asks M fact past

  abbrev AddsOf : (Fact → List Fact → Type 0) → List Fact → List Fact → Type 0
  AddsOf M past after = AddsSoundly (qmi_protocol s) Asks M past after

  abbrev wording : Wording Bool
  wording = qmi_wording s.device

  -- ---- clients ----

  module _ (c : ℕ) (m : List ℕ) where
    abbrev By : Fact → List Fact → Type 0
    By fact past = May (MayAdd (Says c m)) fact past

    -- where a reply finds no room, the sender ends
    replied : (verdict : Verdict) (past : List Fact) → IsPresent c past
        → Adds qmi_limits wording By past (noting.note qmi_limits wording (Judged c (message_count c past + 1) m verdict) past)
    replied verdict past there = noted_by qmi_limits wording By (Judged c (message_count c past + 1) m verdict) past ((λ before there. (there, refl, tt)), tt) (there, (refl, refl), tt)

    grants : (b : Bool) (past : List Fact) → IsPresent c past → (b ≡ true → IsFreeFor c (used_service m) (used_cid m) past) → AddsOf (MayAdd (Says c m)) past (grant_if b c m past)
    grants true past there free = added qmi_limits wording By (Granted c (used_service m) (used_cid m)) past refl ((party_from_present c past there, free refl), refl, tt)
    grants false past there free = none qmi_limits wording By past

    abbrev pub judged_now : List Fact → List Fact
    judged_now past = Judged c (message_count c past + 1) m Forward ∷ past

    newest_at : (b : Bool) (entries : List Entry) (place : ℕ) → b ≡ true → place ≡ said_count (entry_if b (Said m Forward) entries) → said_at place (entry_if b (Said m Forward) entries) ≡ m
    newest_at true entries place own is = ap (λ (t : Bool). if t then m else said_at place entries) (eq-eqb (said_count entries + 1) place (sym is))
    newest_at false entries place own is = absurd (cc)

    -- what the request asks for granted
    pub newest : (n : ℕ) (past : List Fact) → IsPresent c past → IsNewestMessage s (request_of s c m n (judged_now past)) (judged_now past)
    unfolding present view
    newest n past there =
        let place = counted blank c (judged_now past) there in
        record {
          sender = there;
          place = place;
          message = newest_at (c == c) (view_of c past) (message_count c (judged_now past)) (eq-eqb c c refl) place;
          space = refl;
          deadline = refl;
        }

    finds_room : (n : ℕ) (past : List Fact) → is_framed m ≡ true → has_room (length (modem_queue wire past)) m ≡ true → length (modem_queue wire (judged_now past)) + length (with_number n m) ≤ modem_outbox_limit
    unfolding to_modem modem_taken_count
    finds_room n past framed room = let same = numbered_length n m (framed_long m framed) in grind (arith, nat_tests, room, same)

    forwards : (n : ℕ) (past : List Fact) → IsPresent c past → CanGo c m n past → AddsOf (MayAdd (Says c m)) (judged_now past) (forward s c m n (judged_now past))
    unfolding present in_use last_number held
    forwards n past there can =
        let before : List Fact = judged_now past in
        let request : Request = request_of s c m n before in
        further qmi_limits wording By before (Forwarded request ∷ before) _
        (added qmi_limits wording By (Forwarded request) before refl (record { serial = refl; sender = party_from_present c past there; number = can.number }, inl refl, (finds_room n past can.framed can.room, inl (newest n past there))))
        (grants (uses_id m) (Forwarded request ∷ before) there (used_id_is_free c m past can.free))

    judges : (opened : Bool) (decision : Decision) (past : List Fact) → IsPresent c past → decision_as s opened c m past ≡ decision → AddsOf (MayAdd (Says c m)) past (judge s c m decision past)
    judges opened (Replies verdict) past there is = replied verdict past there
    judges opened (Forwards n) past there is =
        further qmi_limits wording By past (judged_now past) _
        (judged qmi_limits wording By c (message_count c past + 1) m Forward past (λ entries. refl) (there, (refl, refl), tt))
        (forwards n past there (can_go s opened c m past n is))

  -- ---- the modem ----

  module _ (m : List ℕ) where
    abbrev BySaying : Fact → List Fact → Type 0
    BySaying fact past = May (MayAdd (ModemSays m)) fact past

    abbrev Heard : List Fact → List Fact → Type 0
    Heard past after = AddsOf (MayAdd (ModemSays m)) past after

    ends : (c : ℕ) (before : List Fact) → IsPresent c before → BySaying (Ended c NoRoom) before
    ends c before there = (there, tt, tt)

    one : (fact : Fact) (past : List Fact) → receivers_of fact ≡ [] → BySaying fact past → Heard past (fact ∷ past)
    one fact past silent may = added qmi_limits wording BySaying fact past silent may

    told : (fact : Fact) (past : List Fact) → BySaying fact past → Heard past (note s.device fact past)
    told fact past may = noted qmi_limits wording BySaying ends fact past may

    answers : (r : Request) (change : IdChange) (past : List Fact) → ((service cid : ℕ) → change ≡ Grants service cid → IsFreeFor r.conn service cid past) → Sound past → Contains (pending past) r → Heard past (answer s.device r m change past)
    unfolding pending
    answers r NoChange past free sound at = told (Answered r m) past (at, refl, tt)
    answers r (Grants service cid) past free sound at =
        let granted : List Fact = Granted r.conn service cid ∷ past in
        further qmi_limits wording BySaying past granted _
        (one (Granted r.conn service cid) past refl ((All-contains (λ (q : Request). IsParty q.conn past) (pending past) r (waiting_are_parties qmi_limits past sound) at, free service cid refl), tt, tt))
        (told (Answered r m) granted (at, refl, tt))
    answers r Collides past free sound at = told (IdHeld r) past (at, tt, tt)
    answers r (Frees service cid) past free sound at =
        let freed : List Fact = Freed r.conn service cid ∷ past in
        further qmi_limits wording BySaying past freed _ (one (Freed r.conn service cid) past refl (tt, tt, tt)) (told (Answered r m) freed (at, refl, tt))

    answers_to : (own : Bool) (r : Request) (past : List Fact) → Sound past → Contains (in_use past) r → is_pending r past ≡ true → Heard past (answer_to own s.device r m past)
    answers_to true r past sound at is =
        let told_so = told (Answered r m) past (waits qmi_limits past r sound (forwarded_from_in_use past r at) is, refl, tt) in
        let answered : List Fact = note s.device (Answered r m) past in
        further qmi_limits wording BySaying past answered _ told_so (one (Freed 0 (used_service r.message) (used_cid r.message)) answered refl (tt, tt, tt))
    answers_to false r past sound at is =
        answers r (id_change r.conn r.message m (holder_of_brought m past)) past (λ service cid e. change_free r.conn r.message m past service cid e) sound (waits qmi_limits past r sound (forwarded_from_in_use past r at) is)

    answers_or_late : (waiting : Bool) (r : Request) (past : List Fact) → Sound past → Contains (in_use past) r → is_pending r past ≡ waiting → Heard past (answer_or_late s.device waiting r m past)
    answers_or_late true r past sound at is = answers_to (r.conn == 0) r past sound at is
    answers_or_late false r past sound at is = one (Late r) past refl (at, tt, tt)

    responds : (found : Option Request) (past : List Fact) → Sound past → first_answered_by m (in_use past) ≡ found → Heard past (respond s.device found m past)
    responds None past sound is = one Stray past refl (tt, tt, tt)
    responds (Some r) past sound is = answers_or_late (is_pending r past) r past sound (found_is m (in_use past) r is).0 refl

    -- the receivers are there
    receivers_present : (past : List Fact) → All (λ c. IsPresent c past) (receivers s.device m past)
    receivers_present past =
        let Those : List ℕ → Type 0 = All (λ c. IsPresent c past) in
        let some : (p : ℕ → Bool) → Those (filter p (present past)) = λ p. All-filter p (λ (c : ℕ). IsPresent c past) (present past) (each_contained (present past)) in
        any_of Those (is_control m) _ _ (some _) (any_of Those (cid_of m == 255) _ _ (some _) (some _))
      where
        any_of : (P : List ℕ → Type 0) (b : Bool) (xs ys : List ℕ) → P xs → P ys → P (if b then xs else ys)
        any_of P true xs ys x y = x
        any_of P false xs ys x y = y

    tells : (past : List Fact) → Heard past (tell s.device m past)
    tells past = told (Indicated m (receivers s.device m past)) past (receivers_present past, tt, tt)

    indicates : (past : List Fact) → Sound past → Heard past (indicate s.device m past)
    indicates past sound =
        either qmi_limits wording BySaying (is_sync m) past _ _
        (λ sync.
        let aborted : List Fact = abort_all s.device past in
        further qmi_limits wording BySaying past aborted _ (aborts past sound)
        (further qmi_limits wording BySaying aborted (Reset ∷ aborted) _ (one Reset aborted refl (tt, tt, tt)) (tells (Reset ∷ aborted))))
        (λ other. either qmi_limits wording BySaying (not (is_control m) && cid_of m == 0) past _ _ (λ nobody. one Stray past refl (tt, tt, tt)) (λ some. tells past))
      where
        refuses : (own : Bool) (r : Request) (before : List Fact) → Heard before (note s.device (Aborted r) before) → Heard before (freed_if own r (note s.device (Aborted r) before))
        refuses true r before told = further qmi_limits wording BySaying before (note s.device (Aborted r) before) _ told (one (Freed 0 (used_service r.message) (used_cid r.message)) (note s.device (Aborted r) before) refl (tt, tt, tt))
        refuses false r before told = told

        aborts : (past : List Fact) → Sound past → Heard past (abort_all s.device past)
        aborts past sound =
            adds_abort_all qmi_limits wording BySaying (λ fact before may. may.0) (refuse s.device) in_expiry_order only_those (λ r before s at. refuses (r.conn == 0) r before (told (Aborted r) before (at, tt, tt))) past sound

    hears : (heard : Option MessageKind) (past : List Fact) → Sound past → Heard past (hear_as heard s.device m past)
    hears (Some kind.Response) past sound = responds (first_answered_by m (in_use past)) past sound refl
    hears (Some kind.Indication) past sound = indicates past sound
    hears (Some kind.Request) past sound = one Stray past refl (tt, tt, tt)
    hears None past sound = one Stray past refl (tt, tt, tt)

  -- ---- requests of the proxy itself ----

  abbrev ByClock : Fact → List Fact → Type 0
  ByClock fact past = May MayTick fact past

  refuses_own : (why : Fact) (own : Bool) (r : Request) (past : List Fact) → AddsOf (MayRefuse why) past (note s.device why past) → AddsOf (MayRefuse why) past (freed_if own r (note s.device why past))
  refuses_own why true r past noted =
      let after : List Fact = note s.device why past in
      further qmi_limits wording (May (MayRefuse why)) past after _ noted (added qmi_limits wording (May (MayRefuse why)) (Freed 0 (used_service r.message) (used_cid r.message)) after refl (tt, refl, tt))
  refuses_own why false r past noted = noted

  pub some_if : (room : Bool) (number : Option ℕ) (n : ℕ) → number_if room number ≡ Some n → (room ≡ true) × (number ≡ Some n)
  some_if true number n is = (refl, is)
  some_if false number n is = absurd (cc)

  pub first_kept : (P : KeptId → Type 0) (after time : ℕ) (ids : List KeptId) (k : KeptId) → AllByRecursion P ids → first_due after time ids ≡ Some k → P k
  unfolding first_due
  first_kept P after time [] k all is = absurd (cc)
  first_kept P after time (l ∷ ids) k all is = by (λ k is. first_kept P after time ids k all.1 is) (nat_le after (time - l.since)) (first_due after time ids) refl is
    where
      same : (l : KeptId) → P l → Some l ≡ Some k → P k
      same l here is = let eq : l ≡ k = cc in subst P eq here

      by_order : (m : KeptId) (b : Bool) → P m → Some (cond b l m) ≡ Some k → P k
      by_order m true other is = same l all.0 is
      by_order m false other is = same m other is

      by : ((k : KeptId) → first_due after time ids ≡ Some k → P k) → (due : Bool) (found : Option KeptId) → first_due after time ids ≡ found → nearer due l found ≡ Some k → P k
      by rest false found e is = rest k (e ∙ is)
      by rest true None e is = same l all.0 is
      by rest true (Some m) e is = by_order m (is_before l m) (rest m e) is

  one_released : (k : KeptId) (n : ℕ) (past : List Fact) → holder_in k.service k.cid (held past) ≡ None → number_for_own k past ≡ Some n → AddsOf MayTick past (releases_one s k n past)
  unfolding in_use last_number held
  one_released k n past free is =
      let parts = some_if (has_room (length (modem_queue wire past)) (release_of k.service k.cid)) (own_number past) n is in
      let r : Request = own_request s k.service k.cid n past in
      let room : length (modem_queue wire past) + length (wire r) ≤ modem_outbox_limit = grind (arith, nat_tests, parts.0) in
      further qmi_limits wording ByClock past (Forwarded r ∷ past) _
      (added qmi_limits wording ByClock (Forwarded r) past refl (record { serial = refl; sender = refl; number = parts.1 }, refl, (room, inr (record { sender = refl; service = k.service; cid = k.cid; message = refl; space = refl; deadline = refl }))))
      (added qmi_limits wording ByClock (Granted 0 k.service k.cid) (Forwarded r ∷ past) refl ((refl, ap (is_other 0) free), refl, tt))

  releases_ids : (after count : ℕ) (past : List Fact) → Sound past → AddsOf MayTick past (releases s after count past)
  unfolding releases
  releases_ids after zero past sound = none qmi_limits wording ByClock past
  releases_ids after (suc count) past sound = by_id (λ next sound. releases_ids after count next sound) (first_due after (now past) (kept past)) refl
    where
      by_number : ((next : List Fact) → Sound next → AddsOf MayTick next (releases s after count next)) → (k : KeptId) (number : Option ℕ) → holder_in k.service k.cid (held past) ≡ None → number_for_own k past ≡ number → AddsOf MayTick past (elim number [ None ↦ past | Some number ↦ releases s after count (releases_one s k number past) ])
      by_number rest k None free is = none qmi_limits wording ByClock past
      by_number rest k (Some n) free is =
          let adds = one_released k n past free is in
          further qmi_limits wording ByClock past (releases_one s k n past) _ adds
          (rest (releases_one s k n past) (extends_sound qmi_limits wording ByClock (λ fact before may. may.0) past (releases_one s k n past) adds.extends sound))

      by_id : ((next : List Fact) → Sound next → AddsOf MayTick next (releases s after count next)) → (found : Option KeptId) → first_due after (now past) (kept past) ≡ found
          → AddsOf MayTick past (elim found [ None ↦ past | Some k ↦ elim (number_for_own k past) [ None ↦ past | Some number ↦ releases s after count (releases_one s k number past) ] ])
      by_id rest None is = none qmi_limits wording ByClock past
      by_id rest (Some k) is = by_number rest k (number_for_own k past) (first_kept (λ k. holder_in k.service k.cid (held past) ≡ None) after (now past) (kept past) k (kept_are_nobodys past) is) refl

  releases_due : (after : Option ℕ) (past : List Fact) → Sound past → AddsOf MayTick past (release_due s after past)
  releases_due None past sound = none qmi_limits wording ByClock past
  releases_due (Some after) past sound = releases_ids after (length (kept past)) past sound

  -- ---- the whole protocol ----

  pub orderly : IsOrderly (qmi_protocol s) Asks
  orderly = record {
    client = λ c m past sound there. judges c m (is_open s.device (view_of c past)) _ past there refl;
    modem = λ m past sound. hears m (framed_kind m) past sound;
    refusal = λ why r past may sound. refuses_own why (r.conn == 0) r past (noted qmi_limits wording (May (MayRefuse why)) (λ c before there. (there, tt, tt)) why past may);
    order = only_those;
    loss = λ past sound. none qmi_limits wording (May (MayAdd ModemIsLost)) past;
    clock = λ past sound. releases_due s.release past sound;
    finish = λ past sound. none qmi_limits wording (May MayFinish) past;
  }
