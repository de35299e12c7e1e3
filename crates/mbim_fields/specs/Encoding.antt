-- What encoding answers.
use Rattle.std.specs.Prelude.{◌≡◌, ℕ, List, ◌++◌, Option, Some, None, option_map}
use Rattle.mbim_fields.specs.declared.fault.EncodeFault.{EncodeFault}
use Rattle.mbim_fields.specs.declared.fault.EncodeFault.TheVariants.{Misfit, OutOfMemory}

-- there are such bytes, and they were added
abbrev pub Adds : Option (List ℕ) → List ℕ → List ℕ → Type 0
Adds stated old new = option_map (λ bytes. old ++ bytes) stated ≡ Some new

-- a misfit comes only where there is no such thing
abbrev pub IsMisfit : {A : Type 0} → Option A → EncodeFault → Type 0
IsMisfit stated Misfit = stated ≡ None
IsMisfit stated OutOfMemory = Unit {0}
