-- Writing values behind bytes, one after another.
use Rattle.std.specs.Prelude.{◌≡◌, ℕ, List, ◌++◌}
use Rattle.qmi_values.specs.declared.fault.EncodeFault.{EncodeFault}
use Rattle.qmi_values.specs.declared.fault.EncodeFault.TheVariants.{Misfit, OutOfMemory}

-- bytes were added of which this holds
pub record Adds (Holds : List ℕ → Type 0) (old new : List ℕ) : Type 0 where
  pub bytes : List ℕ
  pub whole : new ≡ old ++ bytes
  pub holds : Holds bytes

-- a misfit comes only where this holds of no bytes
abbrev pub HoldsOfNone : (List ℕ → Type 0) → EncodeFault → Type 0
HoldsOfNone Holds Misfit = (bytes : List ℕ) → Holds bytes → ⊥
HoldsOfNone Holds OutOfMemory = Unit {0}
