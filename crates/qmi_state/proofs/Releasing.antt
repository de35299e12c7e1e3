-- A core releases the ids that its history releases.
use Rattle.std.proofs.Common.{◌≡◌, ◌≤◌, ℕ, zero, suc, Bool, true, false, cond, not, ◌&&◌, ◌==◌, List, [], ◌∷◌, length, filter, refl, ap, sym, ◌∙◌, subst, inr, ⊎_elim, arith, Contains, Option, Some, None}
use Rattle.std.proofs.lemmas.Bool.{eq-eqb}
use Rattle.std.proofs.lemmas.List.Elements.{All-contains_itself, recursion_from_All}
use Rattle.connections.specs.Table.{Table}
use Rattle.proxy_history.specs.Facts.{Fact, Request, Forwarded, Granted}
use Rattle.proxy_history.specs.Connections.{present, dropped}
use Rattle.proxy_history.specs.Requests.{in_use, last_number, number_after}
use Rattle.proxy_history.specs.ClientIds.{KeptId, held, kept, holder_in, is_other}
use Rattle.proxy_history.specs.Modem.{now, is_away, to_modem, modem_taken_count, modem_queue}
use Rattle.proxy_history.specs.View.{view}
use Rattle.proxy_history.proofs.Kept.{kept_are_nobodys}
use Rattle.proxy_history.proofs.Lists.{Contains-cons_cases, Contains-nil}
use Rattle.qmi_proxy.specs.Setup.{Setup}
use Rattle.qmi_proxy.specs.Spaces.{control_space}
use Rattle.qmi_proxy.specs.Clients.{deadline_of, has_room, wire}
use Rattle.qmi_proxy.specs.Releases.{release_of, own_request, first_due, own_number, number_if, release_due}
use Rattle.qmi_proxy.specs.Releases as history
use Rattle.qmi_proxy.specs.Regular.{Regular}
use Rattle.qmi_proxy.proofs.Walk.{some_if, first_kept}
use Rattle.qmi_proxy.proofs.Regulars.{regular_more}
use Rattle.holders.specs.Kept.{is_kept_of, kept_without}
use Rattle.proxy_state.specs.Requests.{requests_in_use}
use Rattle.proxy_state.specs.Stands.{Streams}
use Rattle.proxy_state.proofs.InUse.{numbers_used}
use Rattle.proxy_state.proofs.Filters.{filter_shorter}
use Rattle.qmi_state.specs.Asked.{asked_of}
use Rattle.qmi_state.specs.declared.client.Client.{Client}
use Rattle.qmi_state.specs.Traffic.{Traffic, traffic_of, grants_id, number_for_own, asks_release, ids, kept_ids}
use Rattle.qmi_state.specs.Core.{ModemSide, QmiState, side_of}
use Rattle.qmi_state.specs.Transitions.{with_traffic, releases_one, releases_in, releases_due}
use Rattle.qmi_state.proofs.FirstDue.{id_of, id_in, first_is, one_first}
use Rattle.qmi_state.proofs.KeptIds.{kept_from_ids, kept_to_ids}
use Rattle.qmi_state.proofs.TrafficSteps.{traffic_forwarded}
use Rattle.qmi_state.proofs.Keeping as keeping
use Rattle.qmi_state.proofs.Keeping.{keeps_quiet}

-- ---- which id is the next ----

-- the history's kept ids and those of a core have the same first one that is due
same_first : (after time : ℕ) (past : List Fact) → id_in (first_due after time (kept past)) ≡ id_in (first_due after time (kept_ids past))
same_first after time past =
    one_first after time (kept past) (kept_ids past) (kept_to_ids past) (kept_from_ids past) (id_in (first_due after time (kept past))) (id_in (first_due after time (kept_ids past))) (first_is after time (kept past)) (first_is after time (kept_ids past))

pub none_due : (after time : ℕ) (kept : List KeptId) → length kept ≤ 0 → first_due after time kept ≡ None
unfolding first_due
none_due after time [] few = refl
none_due after time (k ∷ kept) few = absurd (omega arith)

none_as : (found : Option KeptId) → id_in found ≡ None → found ≡ None
none_as None is = refl
none_as (Some k) is = absurd (cc)

-- ---- an id that is released is kept no more ----

pub fewer_left : (service cid : ℕ) (k : KeptId) (rest : List KeptId) (count : ℕ) → is_kept_of service cid k ≡ true → Contains rest k → length rest ≤ suc count → length (kept_without service cid rest) ≤ count
fewer_left service cid k [] count is at few = absurd (Contains-nil k at)
fewer_left service cid k (l ∷ rest) count is at few =
    let passes : KeptId → Bool = λ (m : KeptId). not (is_kept_of service cid m) in
    let Few : Bool → Type 0 = λ (b : Bool). length (cond (not b) (l ∷ filter passes rest) (filter passes rest)) ≤ count in
    let step : (b : Bool) → is_kept_of service cid l ≡ b → Few b =
    λ b. elim b as (λ b. is_kept_of service cid l ≡ b → Few b) [
      | true ↦ λ e. let shorter = filter_shorter passes rest in omega arith
      | false ↦ λ e. by_count count (λ n there within. fewer_left service cid k rest n is there within) (later e) few
    ]
    in step (is_kept_of service cid l) refl
  where
    later : is_kept_of service cid l ≡ false → Contains rest k
    later e =
        ⊎_elim (λ (same : l ≡ k). absurd (let clash : is_kept_of service cid k ≡ false = subst (λ (m : KeptId). is_kept_of service cid m ≡ false) same e in cc)) (λ (behind : Contains rest k). behind) (Contains-cons_cases k l rest at)

    by_count : (n : ℕ) → ((n : ℕ) → Contains rest k → length rest ≤ suc n → length (kept_without service cid rest) ≤ n) → Contains rest k → length (l ∷ rest) ≤ suc n → length (l ∷ kept_without service cid rest) ≤ n
    by_count zero again there within = absurd (let some = there.1 in omega arith)
    by_count (suc n) again there within = let fewer = again n there (omega arith) in omega arith

pub is_of_itself : (k : KeptId) → is_kept_of k.service k.cid k ≡ true
is_of_itself k = ap (λ (b : Bool). b && (k.cid == k.cid)) (eq-eqb k.service k.service refl) ∙ eq-eqb k.cid k.cid refl

-- ---- a core, one id after another ----

module _ (after : ℕ) where
  pub core_stops : (count : ℕ) (x : QmiState) → first_due after x.beside.time x.beside.traffic.kept ≡ None → releases_in after count x ≡ x
  unfolding releases_in
  core_stops zero x none = refl
  core_stops (suc count) x none = ap (λ o. elim o [ None ↦ x | Some k ↦ elim (number_for_own k x.beside.traffic) [ None ↦ x | Some number ↦ releases_in after count (releases_one k number x) ] ]) none

  pub core_stops_at : (count : ℕ) (x : QmiState) (k : KeptId) → first_due after x.beside.time x.beside.traffic.kept ≡ Some k → number_for_own k x.beside.traffic ≡ None → releases_in after (suc count) x ≡ x
  unfolding releases_in
  core_stops_at count x k first none =
      ap (λ o. elim o [ None ↦ x | Some k ↦ elim (number_for_own k x.beside.traffic) [ None ↦ x | Some number ↦ releases_in after count (releases_one k number x) ] ]) first
      ∙ ap (λ o. elim o [ None ↦ x | Some number ↦ releases_in after count (releases_one k number x) ]) none

  pub core_goes_on : (count : ℕ) (x : QmiState) (k : KeptId) (n : ℕ) → first_due after x.beside.time x.beside.traffic.kept ≡ Some k → number_for_own k x.beside.traffic ≡ Some n → releases_in after (suc count) x ≡ releases_in after count (releases_one k n x)
  unfolding releases_in
  core_goes_on count x k n first some =
      ap (λ o. elim o [ None ↦ x | Some k ↦ elim (number_for_own k x.beside.traffic) [ None ↦ x | Some number ↦ releases_in after count (releases_one k number x) ] ]) first
      ∙ ap (λ o. elim o [ None ↦ x | Some number ↦ releases_in after count (releases_one k number x) ]) some

module _ (s : Setup) (streams : Streams) where
  abbrev Kept : List Fact → QmiState → Type 0
  Kept past x = keeping.Kept s streams past x

  first_of : (after : ℕ) (past : List Fact) (k : KeptId) (list : List KeptId) → first_due after (now past) list ≡ Some k → Contains list k
  first_of after past k list first = first_kept s (Contains list) after (now past) list k (recursion_from_All (Contains list) list (All-contains_itself list)) first

  -- ---- one id ----

  number_is : (k : KeptId) (past : List Fact) → history.number_for_own k past ≡ number_for_own k (traffic_of past)
  number_is k past = ap (number_if (has_room (length (modem_queue wire past)) (release_of k.service k.cid))) (sym (ap (number_after 255 255 (last_number control_space past)) (numbers_used asked_of control_space past)))

  module _ (k : KeptId) (number : ℕ) (past : List Fact) (table : Table Client) (numbered : history.number_for_own k past ≡ Some number) (free : holder_in k.service k.cid (held past) ≡ None)
      (K : Kept past (record { table = table; beside = side_of s past })) where
    abbrev x : QmiState
    x = record { table = table; beside = side_of s past }

    abbrev r : Request
    r = own_request s k.service k.cid number past

    abbrev sent : List Fact
    sent = Forwarded r ∷ past

    regular_sent : Regular sent
    unfolding present in_use last_number
    regular_sent =
        let parts = some_if s (has_room (length (modem_queue wire past)) (release_of k.service k.cid)) (own_number past) number numbered in
        regular_more (Forwarded r) past (record { serial = refl; sender = refl; number = parts.1 }) ((refl, omega arith), inr refl) tt K.fine

    kept_sent : Kept sent (with_traffic (traffic_of sent) x)
    unfolding present dropped view now is_away
    kept_sent = keeps_quiet s streams sent past x (traffic_of sent) (λ d. refl) refl refl refl refl refl regular_sent K

    kept_held : Kept (history.releases_one s k number past) (with_traffic (grants_id 0 k.service k.cid (traffic_of sent)) x)
    unfolding present dropped view requests_in_use now is_away last_number ids kept_ids held to_modem modem_taken_count
    kept_held =
        keeps_quiet s streams (history.releases_one s k number past) sent (with_traffic (traffic_of sent) x) (grants_id 0 k.service k.cid (traffic_of sent)) (λ d. refl) refl refl refl refl refl
        (regular_more (Granted 0 k.service k.cid) sent (refl, ap (is_other 0) free) tt tt regular_sent) kept_sent

    traffic_released : grants_id 0 k.service k.cid (traffic_of sent) ≡ asks_release (deadline_of (now past) s.time_limit) k number (traffic_of past)
    traffic_released = ap (grants_id 0 k.service k.cid) (traffic_forwarded r refl past K.fine.was_taken)

    pub kept_released_one : Kept (history.releases_one s k number past) (releases_one k number x)
    kept_released_one = subst (λ (d : Traffic). Kept (history.releases_one s k number past) (with_traffic d x)) traffic_released kept_held

  -- ---- one after the other ----

  module _ (after : ℕ) where
    stops : (count : ℕ) (past : List Fact) → first_due after (now past) (kept past) ≡ None → history.releases s after count past ≡ past
    unfolding history.releases
    stops zero past none = refl
    stops (suc count) past none = ap (λ o. elim o [ None ↦ past | Some k ↦ elim (history.number_for_own k past) [ None ↦ past | Some number ↦ history.releases s after count (history.releases_one s k number past) ] ]) none

    stops_at : (count : ℕ) (past : List Fact) (k : KeptId) → first_due after (now past) (kept past) ≡ Some k → history.number_for_own k past ≡ None → history.releases s after (suc count) past ≡ past
    unfolding history.releases
    stops_at count past k first none =
        ap (λ o. elim o [ None ↦ past | Some k ↦ elim (history.number_for_own k past) [ None ↦ past | Some number ↦ history.releases s after count (history.releases_one s k number past) ] ]) first
        ∙ ap (λ o. elim o [ None ↦ past | Some number ↦ history.releases s after count (history.releases_one s k number past) ]) none

    goes_on : (count : ℕ) (past : List Fact) (k : KeptId) (n : ℕ) → first_due after (now past) (kept past) ≡ Some k → history.number_for_own k past ≡ Some n
        → history.releases s after (suc count) past ≡ history.releases s after count (history.releases_one s k n past)
    unfolding history.releases
    goes_on count past k n first some =
        ap (λ o. elim o [ None ↦ past | Some k ↦ elim (history.number_for_own k past) [ None ↦ past | Some number ↦ history.releases s after count (history.releases_one s k number past) ] ]) first
        ∙ ap (λ o. elim o [ None ↦ past | Some number ↦ history.releases s after count (history.releases_one s k number past) ]) some

    abbrev Released : ℕ → ℕ → List Fact → QmiState → Type 0
    Released count core_count past x = Kept (history.releases s after count past) (releases_in after core_count x)

    -- the core has as many ids to go through as the history
    abbrev Goes : ℕ → ℕ → Type 0
    Goes count core_count = (past : List Fact) (x : QmiState) → length (kept past) ≤ count → length (kept_ids past) ≤ core_count → Kept past x → Released count core_count past x

    module _ (past : List Fact) (table : Table Client) (K : Kept past (record { table = table; beside = side_of s past })) where
      abbrev here : QmiState
      here = record { table = table; beside = side_of s past }

      stops_both : (count core_count : ℕ) → first_due after (now past) (kept past) ≡ None → Released count core_count past here
      stops_both count core_count none =
          let core_none : first_due after (now past) (kept_ids past) ≡ None = none_as (first_due after (now past) (kept_ids past)) (sym (same_first after (now past) past) ∙ ap id_in none) in
          subst (λ (l : List Fact). Kept l (releases_in after core_count here)) (sym (stops count past none)) (subst (Kept past) (sym (core_stops after core_count here core_none)) K)

      module _ (count core_count : ℕ) (further : Goes count core_count) (few : length (kept past) ≤ suc count) (core_few : length (kept_ids past) ≤ suc core_count) where
        -- the core's id is the history's, since whichever time
        module _ (k l : KeptId) (first : first_due after (now past) (kept past) ≡ Some k) (core_first : first_due after (now past) (kept_ids past) ≡ Some l) where
          same_id : id_of l ≡ id_of k
          same_id = let both : Some (id_of l) ≡ Some (id_of k) = sym (ap id_in core_first) ∙ sym (same_first after (now past) past) ∙ ap id_in first in cc

          number_same : number_for_own l (traffic_of past) ≡ history.number_for_own k past
          number_same = ap (λ (p : ℕ × ℕ). number_for_own (record { service = p.0; cid = p.1; since = 0 }) (traffic_of past)) same_id ∙ sym (number_is k past)

          one_same : (n : ℕ) → releases_one k n here ≡ releases_one l n here
          one_same n = ap (λ (p : ℕ × ℕ). releases_one (record { service = p.0; cid = p.1; since = 0 }) n here) (sym same_id)

          fewer_kept : (n : ℕ) → length (kept (history.releases_one s k n past)) ≤ count
          unfolding kept
          fewer_kept n = fewer_left k.service k.cid k (kept past) count (is_of_itself k) (first_of after past k (kept past) first) few

          fewer_kept_ids : (n : ℕ) → length (kept_ids (history.releases_one s k n past)) ≤ core_count
          unfolding kept_ids
          fewer_kept_ids n = fewer_left k.service k.cid l (kept_ids past) core_count (ap (λ (p : ℕ × ℕ). is_kept_of p.0 p.1 l) (sym same_id) ∙ is_of_itself l) (first_of after past l (kept_ids past) core_first) core_few

          by_number : (o : Option ℕ) → history.number_for_own k past ≡ o → Released (suc count) (suc core_count) past here
          by_number None none =
              subst (λ (f : List Fact). Kept f (releases_in after (suc core_count) here)) (sym (stops_at count past k first none))
              (subst (Kept past) (sym (core_stops_at after core_count here l core_first (number_same ∙ none))) K)
          by_number (Some n) some =
              let free : holder_in k.service k.cid (held past) ≡ None = first_kept s (λ k. holder_in k.service k.cid (held past) ≡ None) after (now past) (kept past) k (kept_are_nobodys past) first in
              let facts : List Fact = history.releases_one s k n past in
              subst (λ (f : List Fact). Kept f (releases_in after (suc core_count) here)) (sym (goes_on count past k n first some))
              (subst (Kept (history.releases s after count facts)) (sym (core_goes_on after core_count here l n core_first (number_same ∙ some)))
              (further facts (releases_one l n here) (fewer_kept n) (fewer_kept_ids n) (subst (Kept facts) (one_same n) (kept_released_one k n past table some free K))))

        by_both : (o core_o : Option KeptId) → first_due after (now past) (kept past) ≡ o → first_due after (now past) (kept_ids past) ≡ core_o → Released (suc count) (suc core_count) past here
        by_both None core_o none core_is = stops_both (suc count) (suc core_count) none
        by_both (Some k) None first none = absurd (let clash : Some (id_of k) ≡ None = sym (ap id_in first) ∙ same_first after (now past) past ∙ ap id_in none in cc)
        by_both (Some k) (Some l) first core_first = by_number k l first core_first (history.number_for_own k past) refl

    with_side : (count core_count : ℕ) (past : List Fact) (x : QmiState) → ((K : Kept past (record { table = x.table; beside = side_of s past })) → Released count core_count past (record { table = x.table; beside = side_of s past }))
        → Kept past x → Released count core_count past x
    with_side count core_count past x by K =
        subst (λ (side : ModemSide). Kept (history.releases s after count past) (releases_in after core_count (record { table = x.table; beside = side }))) (sym K.holds.beside)
        (by (subst (λ (side : ModemSide). Kept past (record { table = x.table; beside = side })) K.holds.beside K))

    goes : (count core_count : ℕ) → Goes count core_count
    goes zero core_count past x few core_few K = with_side zero core_count past x (λ L. stops_both past x.table L zero core_count (none_due after (now past) (kept past) few)) K
    goes (suc count) zero past x few core_few K =
        let core_none : first_due after (now past) (kept_ids past) ≡ None = none_due after (now past) (kept_ids past) core_few in
        with_side (suc count) zero past x (λ L. stops_both past x.table L (suc count) zero (none_as (first_due after (now past) (kept past)) (same_first after (now past) past ∙ ap id_in core_none))) K
    goes (suc count) (suc core_count) past x few core_few K =
        with_side (suc count) (suc core_count) past x
        (λ L. by_both past x.table L count core_count (goes count core_count) few core_few (first_due after (now past) (kept past)) (first_due after (now past) (kept_ids past)) refl refl) K

  released_if : (after : Option ℕ) (past : List Fact) (x : QmiState) → Kept past x → Kept (release_due s after past) (releases_due after x)
  released_if None past x K = K
  released_if (Some after) past x K =
      subst (λ (l : List KeptId). Kept (history.releases s after (length (kept past)) past) (releases_in after (length l) x)) (sym (ap (λ (b : ModemSide). b.traffic.kept) K.holds.beside))
      (goes after (length (kept past)) (length (kept_ids past)) past x (omega arith) (omega arith) K)

  pub kept_released : (past : List Fact) (x : QmiState) → Kept past x → Kept (release_due s s.release past) (releases_due x.beside.release x)
  kept_released past x K = subst (λ (o : Option ℕ). Kept (release_due s s.release past) (releases_due o x)) (sym (ap (λ (b : ModemSide). b.release) K.holds.beside)) (released_if s.release past x K)
