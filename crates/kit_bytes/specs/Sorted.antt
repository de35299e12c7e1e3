-- Lists in order.
use Rattle.std.specs.Prelude.{List, [], ◌∷◌}
use Rattle.std.specs.List.{AllByRecursion}

-- each element stands in this relation to all that are behind it
unfoldable pub IsInOrder : {X : Type 0} → (X → X → Type 0) → List X → Type 0
IsInOrder R [] = Unit {0}
IsInOrder R (x ∷ xs) = AllByRecursion (R x) xs × IsInOrder R xs
