-- A child is alive exactly between its start and its end.
use Rattle.std.proofs.Common.{◌≡◌, ⊎_elim, ℕ, zero, Bool, false, not, ◌||◌, List, [], ◌∷◌, Contains, refl, ap, sym, ◌∙◌, arith, subst}
use Rattle.std.proofs.Math.Bool.{not-not}
use Rattle.std.proofs.lemmas.List.Elements.{Contains-append_left, Contains-append_right, Contains-append_cases}
use Rattle.std.specs.List.{AllByRecursion, list_any}
use Rattle.kit_bytes.proofs.Members.{Contains-cons_cases, Contains-nil, Contains-filter, Contains-filter_from, Contains-filter_passes}
use Rattle.child_io.specs.Calls.{Call, Started, StartFailed, Ended, EndFailed, Stopped}
use Rattle.child_io.specs.Alive.{sees_end_of, left_after, named_by, alive}
use Rattle.child_io.specs.Laws.{IsStartedAndNotEnded, AliveUntilTheEnd}
use Rattle.child_io.proofs.Alive.{left_false, right_false, alive-append}

-- ---- none of the calls passes the test ----

none_passes : (p : Call → Bool) (calls : List Call) → list_any p calls ≡ false → AllByRecursion (λ call. p call ≡ false) calls
none_passes p [] none = tt
none_passes p (call ∷ calls) none = (left_false (p call) (list_any p calls) none, none_passes p calls (right_false (p call) (list_any p calls) none))

list_any_none : (p : Call → Bool) (calls : List Call) → AllByRecursion (λ call. p call ≡ false) calls → list_any p calls ≡ false
list_any_none p [] each = refl
list_any_none p (call ∷ calls) each = ap (λ b. b || list_any p calls) each.0 ∙ list_any_none p calls each.1

-- ---- from the list to the calls ----

named_first : (call : Call) (later : List Call) (child : ℕ) → Contains (left_after later (named_by call)) child → IsStartedAndNotEnded child (call ∷ later)
named_first (Started words named) later child at =
    let keep : ℕ → Bool = λ child. not (list_any (sees_end_of child) later) in
    let passes = Contains-filter_passes keep (named ∷ []) child at in
    let is : named ≡ child = ⊎_elim (λ (e : named ≡ child). e) (λ (none : Contains [] child). absurd (Contains-nil child none)) (Contains-cons_cases child named [] (Contains-filter_from keep (named ∷ []) child at)) in
    record {
      earlier = [];
      words = words;
      later = later;
      whole = ap (λ n. Started words n ∷ later) is;
      none = none_passes (sees_end_of child) later (sym (not-not (list_any (sees_end_of child) later)) ∙ ap not passes);
    }
named_first (StartFailed words) later child at = absurd (Contains-nil child at)
named_first (Ended other status) later child at = absurd (Contains-nil child at)
named_first (EndFailed other) later child at = absurd (Contains-nil child at)
named_first (Stopped other ok after) later child at = absurd (Contains-nil child at)

started_later : (call : Call) (later : List Call) (child : ℕ) → IsStartedAndNotEnded child later → IsStartedAndNotEnded child (call ∷ later)
started_later call later child was = record { earlier = call ∷ was.earlier; words = was.words; later = was.later; whole = ap (λ l. call ∷ l) was.whole; none = was.none }

was_started : (calls : List Call) (child : ℕ) → Contains (alive calls) child → IsStartedAndNotEnded child calls
was_started [] child at = absurd (Contains-nil child at)
was_started (call ∷ later) child at =
    ⊎_elim (λ (first : Contains (left_after later (named_by call)) child). named_first call later child first)
    (λ (rest : Contains (alive later) child). started_later call later child (was_started later child rest)) (Contains-append_cases (left_after later (named_by call)) (alive later) child at)

-- ---- from the calls to the list ----

is_alive : (calls : List Call) (child : ℕ) → IsStartedAndNotEnded child calls → Contains (alive calls) child
is_alive calls child was =
    let call = Started was.words child in
    let keep : ℕ → Bool = λ child. not (list_any (sees_end_of child) was.later) in
    let unseen = ap not (list_any_none (sees_end_of child) was.later was.none) in
    let here = Contains-filter keep (child ∷ []) child (zero, omega arith, refl) unseen in
    let first = Contains-append_left (left_after was.later (child ∷ [])) (alive was.later) child here in
    let all = Contains-append_right (left_after (call ∷ was.later) (alive was.earlier)) (alive (call ∷ was.later)) child first in
    subst (λ (l : List Call). Contains (alive l) child) (sym was.whole) (subst (λ (l : List ℕ). Contains l child) (sym (alive-append was.earlier (call ∷ was.later))) all)

pub until_the_end : AliveUntilTheEnd
until_the_end = λ calls child. (was_started calls child, is_alive calls child)
