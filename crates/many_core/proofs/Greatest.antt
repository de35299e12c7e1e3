-- The greatest name at each device.
use Rattle.std.proofs.Common.{◌≡◌, ℕ, zero, suc, ◌+◌, ◌<◌, false, List, [], ◌∷◌, map, set, get_or, slice_get, refl, ap, sym, ◌∙◌, arith, Some}
use Rattle.proxy_history.specs.Events.{Event, Joined, Piece, greatest_after}
use Rattle.proxy_solo.specs.Cores.{hung_up}
use Rattle.qmi_state.specs.Core.{QmiCore}
use Rattle.qmi_state.proofs.Greatest.{greatest_as}
use Rattle.many_history.specs.Many.{in_pieces, arrival}
use Rattle.many_state.specs.Core.{names_of}
use Rattle.many_state.specs.Laws.{is_joining}
use Rattle.many_cores.specs.Cores.{after, met, said, at_place}
use Rattle.many_cores.proofs.Saying.{arrived}

abbrev pub greatest_of : QmiCore → ℕ
greatest_of core = core.state.table.greatest

-- ---- one core ----

met_greatest : (event : Event) (core : QmiCore) → greatest_of (met event core) ≡ greatest_after event (greatest_of core)
met_greatest event core = greatest_as event event (hung_up core) (met event core) refl refl

pub stays_greatest : (event : Event) → is_joining event ≡ false → (core : QmiCore) → greatest_of (met event core) ≡ greatest_of core
stays_greatest event none core = met_greatest event core ∙ by event none (greatest_of core)
  where
    by : (event : Event) → is_joining event ≡ false → (greatest : ℕ) → greatest_after event greatest ≡ greatest
    by (Joined c) joins greatest = absurd (cc)
    by _ joins greatest = refl

said_greatest : (name : ℕ) (pieces : List (List ℕ)) (core : QmiCore) → greatest_of (said name pieces core) ≡ greatest_of core
unfolding said
said_greatest name [] core = refl
said_greatest name (piece ∷ pieces) core = said_greatest name pieces (met (Piece name piece) core) ∙ met_greatest (Piece name piece) core

pub arrived_greatest : (name : ℕ) (before piece : List ℕ) (core : QmiCore) → greatest_of (after (arrival name before piece) core) ≡ name
arrived_greatest name before piece core =
    let joined : QmiCore = met (Joined name) core in
    let behind : QmiCore = said name (in_pieces before) joined in
    ap greatest_of (sym (arrived core name before piece)) ∙ met_greatest (Piece name piece) behind ∙ said_greatest name (in_pieces before) joined ∙ met_greatest (Joined name) core

-- ---- all of them ----

pub names_are : (cores : List QmiCore) (d : ℕ) → get_or (map greatest_of cores) d 0 ≡ names_of cores d
names_are [] d = refl
names_are (core ∷ cores) zero = refl
names_are (core ∷ cores) (suc d) = names_are cores d

pub is_newer : (cores : List QmiCore) (d : ℕ) (core : QmiCore) → slice_get cores d ≡ Some core → greatest_of core < names_of cores d + 1
is_newer [] d core at = absurd (cc)
is_newer (other ∷ cores) zero core at = (let same : other ≡ core = cc in omega (arith, ap greatest_of same))
is_newer (other ∷ cores) (suc d) core at = is_newer cores d core at

module _ {X : Type 0} (f : X → ℕ) (change : X → X) where
  pub names_kept : ((x : X) → f (change x) ≡ f x) → (xs : List X) (i : ℕ) → map f (at_place i change xs) ≡ map f xs
  names_kept same [] i = refl
  names_kept same (y ∷ xs) zero = ap (λ (n : ℕ). n ∷ map f xs) (same y)
  names_kept same (y ∷ xs) (suc i) = ap (λ (l : List ℕ). f y ∷ l) (names_kept same xs i)

  pub all_names_kept : ((x : X) → f (change x) ≡ f x) → (xs : List X) → map f (map change xs) ≡ map f xs
  all_names_kept same [] = refl
  all_names_kept same (y ∷ xs) = ap (λ (n : ℕ). n ∷ map f (map change xs)) (same y) ∙ ap (λ (l : List ℕ). f y ∷ l) (all_names_kept same xs)

  pub name_set : (n : ℕ) → ((x : X) → f (change x) ≡ n) → (xs : List X) (i : ℕ) → set (map f xs) i n ≡ map f (at_place i change xs)
  name_set n is [] i = refl
  name_set n is (y ∷ xs) zero = ap (λ (m : ℕ). m ∷ map f xs) (sym (is y))
  name_set n is (y ∷ xs) (suc i) = ap (λ (l : List ℕ). f y ∷ l) (name_set n is xs i)
