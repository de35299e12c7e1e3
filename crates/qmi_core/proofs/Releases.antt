-- The ids that are due are released one after another.
use Rattle.std.proofs.Common.{◌≡◌, ◌⊎◌, ℕ, zero, suc, ◌<◌, ◌≤◌, Bool, List, length, refl, ap, sym, ◌∙◌, subst, ⊎_elim, arith, Option, Some, None, is_some}
use Rattle.proxy_history.specs.ClientIds.{KeptId}
use Rattle.qmi_proxy.specs.Clients.{deadline_of}
use Rattle.qmi_proxy.specs.Releases.{first_due}
use Rattle.holders.specs.Kept.{FirstDue, IsFirstDue}
use Rattle.qmi_state.specs.Traffic.{Traffic, number_for_own}
use Rattle.qmi_state.specs.Core.{QmiState}
use Rattle.qmi_state.specs.Transitions.{with_traffic, releases_one, releases_in, releases_due}
use Rattle.qmi_state.proofs.FirstDue.{id_in, first_is, one_first}
use Rattle.qmi_state.proofs.FirstDue as named
use Rattle.qmi_state.proofs.Releasing.{none_due, fewer_left, is_of_itself, core_stops, core_stops_at, core_goes_on}
use Rattle.qmi_core.specs.State.{NextReleased, HasReleased, ReleasesNone, id_of, asks_under}

abbrev kept_in : QmiState → List KeptId
kept_in x = x.beside.traffic.kept

module _ (after : ℕ) where
  abbrev first_in : QmiState → Option KeptId
  first_in x = first_due after x.beside.time (kept_in x)

  -- the id that is due first is kept, since some time
  stands_first : (x : QmiState) (k : KeptId) → first_in x ≡ Some k → IsFirstDue after x.beside.time (kept_in x) k.service k.cid
  stands_first x k first = subst (λ (o : Option KeptId). FirstDue after x.beside.time (kept_in x) (id_in o)) first (first_is after x.beside.time (kept_in x))

  -- and it is kept no more once it is released
  fewer : (x : QmiState) (k : KeptId) (number count : ℕ) → first_in x ≡ Some k → length (kept_in x) ≤ suc count → length (kept_in (releases_one k number x)) ≤ count
  fewer x k number count first within =
      let F = stands_first x k first in
      let there : KeptId = record { service = k.service; cid = k.cid; since = F.since } in
      fewer_left k.service k.cid there (kept_in x) count (is_of_itself there) F.at within

  some_kept : (x : QmiState) (k : KeptId) → first_in x ≡ Some k → 0 < length (kept_in x)
  some_kept x k first = let within = (stands_first x k first).at.1 in omega arith

  -- ---- enough turns ----

  abbrev OneMore : ℕ → Type 0
  OneMore count = (x : QmiState) → length (kept_in x) ≤ count → releases_in after count x ≡ releases_in after (suc count) x

  one_more : (count : ℕ) (x : QmiState) → length (kept_in x) ≤ count → releases_in after count x ≡ releases_in after (suc count) x
  one_more zero x few = let none = none_due after x.beside.time (kept_in x) few in core_stops after 0 x none ∙ sym (core_stops after 1 x none)
  one_more (suc count) x few = by_first (λ y less. one_more count y less) (first_in x) refl
    where
      by_number : OneMore count → (k : KeptId) (o : Option ℕ) → first_in x ≡ Some k → number_for_own k x.beside.traffic ≡ o → releases_in after (suc count) x ≡ releases_in after (suc (suc count)) x
      by_number rest k None first under = core_stops_at after count x k first under ∙ sym (core_stops_at after (suc count) x k first under)
      by_number rest k (Some n) first under =
          core_goes_on after count x k n first under ∙ rest (releases_one k n x) (fewer x k n count first few) ∙ sym (core_goes_on after (suc count) x k n first under)

      by_first : OneMore count → (o : Option KeptId) → first_in x ≡ o → releases_in after (suc count) x ≡ releases_in after (suc (suc count)) x
      by_first rest None none = core_stops after (suc count) x none ∙ sym (core_stops after (suc (suc count)) x none)
      by_first rest (Some k) first = by_number rest k (number_for_own k x.beside.traffic) first refl

  enough : (count : ℕ) (x : QmiState) → length (kept_in x) ≤ count → releases_in after count x ≡ releases_due (Some after) x
  enough zero x few = ap (λ (n : ℕ). releases_in after n x) (let none : 0 ≡ length (kept_in x) = omega arith in none)
  enough (suc count) x few =
      ⊎_elim (λ (less : length (kept_in x) ≤ count). sym (one_more count x less) ∙ enough count x less) (λ (all : suc count ≡ length (kept_in x)). ap (λ (n : ℕ). releases_in after n x) all) (sides (length (kept_in x)) few)
    where
      sides : (n : ℕ) → n ≤ suc count → (n ≤ count) ⊎ (suc count ≡ n)
      sides n few = grind arith

  -- ---- a turn, and the end ----

  pub turn_same : (x y : QmiState) → HasReleased after x y → releases_due (Some after) y ≡ releases_due (Some after) x
  turn_same x y R = by_length (length (kept_in x)) refl
    where
      by_length : (count : ℕ) → length (kept_in x) ≡ count → releases_due (Some after) y ≡ releases_due (Some after) x
      by_length zero is = let some = some_kept x R.k R.first in absurd (omega arith)
      by_length (suc count) is =
          ap (releases_due (Some after)) R.released
          ∙ sym (enough count (releases_one R.k R.number x) (fewer x R.k R.number count R.first (omega arith)))
          ∙ sym (core_goes_on after count x R.k R.number R.first R.under)
          ∙ ap (λ (n : ℕ). releases_in after n x) (sym is)

  pub turn_less : (x y : QmiState) → HasReleased after x y → length (kept_in y) < length (kept_in x)
  turn_less x y R = by_length (length (kept_in x)) refl
    where
      by_length : (count : ℕ) → length (kept_in x) ≡ count → length (kept_in y) < length (kept_in x)
      by_length zero is = let some = some_kept x R.k R.first in absurd (omega arith)
      by_length (suc count) is =
          let less = fewer x R.k R.number count R.first (omega arith) in
          let same : length (kept_in y) ≡ length (kept_in (releases_one R.k R.number x)) = ap (λ (z : QmiState). length (kept_in z)) R.released in
          omega arith

  pub turns_end : (x y : QmiState) → ReleasesNone after x y → y ≡ releases_due (Some after) x
  turns_end x y R = R.same ∙ sym (by_first (first_in x) refl)
    where
      by_length : (k : KeptId) (count : ℕ) → first_in x ≡ Some k → length (kept_in x) ≡ count → releases_due (Some after) x ≡ x
      by_length k zero first is = let some = some_kept x k first in absurd (omega arith)
      by_length k (suc count) first is = ap (λ (n : ℕ). releases_in after n x) is ∙ core_stops_at after count x k first (R.none k first)

      by_first : (o : Option KeptId) → first_in x ≡ o → releases_due (Some after) x ≡ x
      by_first None none = core_stops after (length (kept_in x)) x none
      by_first (Some k) first = by_length k (length (kept_in x)) first refl

  -- ---- what the code sees of the first id ----

  first_as : (x : QmiState) (found : Option (ℕ × ℕ)) → FirstDue after x.beside.time (kept_in x) found → id_in (first_in x) ≡ found
  first_as x found F = one_first after x.beside.time (kept_in x) (kept_in x) (λ k at. at) (λ k at. at) (id_in (first_in x)) found (first_is after x.beside.time (kept_in x)) F

  pub none_released : (x y : QmiState) → y ≡ x → FirstDue after x.beside.time (kept_in x) None → ReleasesNone after x y
  none_released x y same F = record {
    same = same;
    none = λ k first. absurd (let clash : Some (named.id_of k) ≡ None = sym (ap id_in first) ∙ first_as x None F in cc);
  }

  module _ (x : QmiState) (service cid : ℕ) (F : FirstDue after x.beside.time (kept_in x) (Some (service, cid))) where
    abbrev id : KeptId
    id = id_of service cid

    -- an id is that one, since whichever time
    same_id : (k : KeptId) → first_in x ≡ Some k → named.id_of k ≡ (service, cid)
    same_id k first = let both : Some (named.id_of k) ≡ Some (service, cid) = sym (ap id_in first) ∙ first_as x (Some (service, cid)) F in cc

    number_same : (k : KeptId) → first_in x ≡ Some k → number_for_own k x.beside.traffic ≡ number_for_own id x.beside.traffic
    number_same k first = ap (λ (p : ℕ × ℕ). number_for_own (id_of p.0 p.1) x.beside.traffic) (same_id k first)

    one_same : (k : KeptId) (n : ℕ) → first_in x ≡ Some k → releases_one id n x ≡ releases_one k n x
    one_same k n first = ap (λ (p : ℕ × ℕ). releases_one (id_of p.0 p.1) n x) (sym (same_id k first))

    pub next_released : (went : Bool) (traffic : Traffic) → went ≡ is_some (number_for_own id x.beside.traffic) → traffic ≡ asks_under (number_for_own id x.beside.traffic) (deadline_of x.beside.time x.beside.time_limit) id x.beside.traffic
        → NextReleased after x (with_traffic traffic x) went
    next_released went traffic asked made = by_first (first_in x) refl (number_for_own id x.beside.traffic) refl
      where
        by_number : (k : KeptId) → first_in x ≡ Some k → (o : Option ℕ) → number_for_own id x.beside.traffic ≡ o → NextReleased after x (with_traffic traffic x) went
        by_number k first None under =
            subst (NextReleased after x (with_traffic traffic x)) (sym (asked ∙ ap is_some under))
            (record {
              same = ap (λ (d : Traffic). with_traffic d x) (made ∙ ap (λ (o : Option ℕ). asks_under o (deadline_of x.beside.time x.beside.time_limit) id x.beside.traffic) under);
              none = λ l is. number_same l is ∙ under;
            })
        by_number k first (Some n) under =
            subst (NextReleased after x (with_traffic traffic x)) (sym (asked ∙ ap is_some under))
            (record {
              k = k;
              number = n;
              first = first;
              under = number_same k first ∙ under;
              released = ap (λ (d : Traffic). with_traffic d x) (made ∙ ap (λ (o : Option ℕ). asks_under o (deadline_of x.beside.time x.beside.time_limit) id x.beside.traffic) under) ∙ one_same k n first;
            })

        by_first : (o : Option KeptId) → first_in x ≡ o → (number : Option ℕ) → number_for_own id x.beside.traffic ≡ number → NextReleased after x (with_traffic traffic x) went
        by_first None none number under = absurd (let clash : None ≡ Some (service, cid) = sym (ap id_in none) ∙ first_as x (Some (service, cid)) F in cc)
        by_first (Some k) first number under = by_number k first number under
