-- What holds of the first of a list.
use Rattle.std.proofs.Common.{rules, ◌≡◌, List, [], ◌∷◌, Some, map, subst, sym}
use Rattle.std.specs.List.{AllByRecursion, slice_get}

pub first-each : {X : Type 0} (P : X → Type 0) (xs : List X) (x : X) → AllByRecursion P xs → slice_get xs 0 ≡ Some x → P x
first-each P [] x each is = search rules
first-each P (y ∷ ys) x each is = search rules

-- of a list that another stands for
pub first-viewed : {X Y : Type 0} (P : Y → Type 0) (view : X → Y) (xs : List X) (ys : List Y) (x : X) → AllByRecursion P ys → map view xs ≡ ys → slice_get xs 0 ≡ Some x → P (view x)
first-viewed P view [] ys x each are is = search rules
first-viewed P view (y ∷ more) ys x each are is =
    let each-viewed = subst (AllByRecursion P) (sym are) each in
    search rules
