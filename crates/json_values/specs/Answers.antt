-- What calls answer: only want of memory is free.
use Rattle.std.specs.Prelude.{◌≡◌, List, ◌∷◌, Result, Ok, Err}
use Rattle.json_values.specs.declared.path.Step.{Step}
use Rattle.json_values.specs.declared.fault.ValueFault.{ValueFault}
use Rattle.json_values.specs.declared.fault.ValueFault.TheVariants.{Misfit, OutOfMemory}
use Rattle.json_values.specs.Paths.{Fitting}

-- what is stated, or the stated path
abbrev pub Gives : {T A : Type 0} → (T → A) → Fitting A → Result T ValueFault → Type 0
Gives seen stated (Ok found) = stated ≡ Ok (seen found)
Gives seen stated (Err (Misfit path)) = stated ≡ Err path
Gives seen stated (Err OutOfMemory) = Unit {0}

-- the fault as it is seen from one step further out
abbrev pub IsUnder : Step → ValueFault → ValueFault → Type 0
IsUnder step OutOfMemory fault = fault ≡ OutOfMemory
IsUnder step (Misfit path) OutOfMemory = Unit {0}
IsUnder step (Misfit path) (Misfit longer) = longer ≡ step ∷ path

-- the fault leads to this part
abbrev pub LeadsTo : List Step → ValueFault → Type 0
LeadsTo path (Misfit found) = found ≡ path
LeadsTo path OutOfMemory = Unit {0}
