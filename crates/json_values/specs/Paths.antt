-- Where a part of a JSON value stands: the names of members and the numbers of elements that lead to it, the outermost first.
-- Source: RFC 6901, JSON Pointer.
use Rattle.std.specs.Prelude.{List, [], ◌∷◌, Option, Some, None, Result, Ok, Err}
use Rattle.json_values.specs.declared.path.Step.{Step}

-- a value, or the path to the part that doesn't fit
abbrev pub Fitting : Type 0 → Type 0
Fitting A = Result A (List Step)

abbrev pub fitting : {A B : Type 0} → (A → B) → Option A → Fitting B
fitting seen None = Err []
fitting seen (Some a) = Ok (seen a)

abbrev pub fitting_as : {A B : Type 0} → (A → B) → Fitting A → Fitting B
fitting_as seen (Ok a) = Ok (seen a)
fitting_as seen (Err path) = Err path

-- the same, seen from one step further out
abbrev pub under : {A : Type 0} → Step → Fitting A → Fitting A
under step (Ok a) = Ok a
under step (Err path) = Err (step ∷ path)

-- both, or the first path
abbrev pub both : {A B C : Type 0} → (A → B → C) → Fitting A → Fitting B → Fitting C
both join (Err path) second = Err path
both join (Ok a) (Err path) = Err path
both join (Ok a) (Ok b) = Ok (join a b)
