-- Reading values from bytes, one after another.
use Rattle.std.specs.Prelude.{◌≡◌, ℕ, ◌+◌, ◌<◌, List, ◌++◌, length}
use Rattle.qmi_shapes.specs.Form.{Form}
use Rattle.qmi_values.specs.Breaking.{Field, room, BreaksOffAt}
use Rattle.qmi_values.specs.declared.fault.ValFault.{ValFault}
use Rattle.qmi_values.specs.declared.fault.ValFault.TheVariants.{Short, Over, OutOfMemory}

-- the place that reading has come to, and the bytes that are left
pub record Reading : Type 0 where
  pub place : ℕ
  pub left : List ℕ

-- reading took these bytes
pub record Took (bytes : List ℕ) (old new : Reading) : Type 0 where
  pub left : old.left ≡ bytes ++ new.left
  pub place : new.place ≡ old.place + length bytes

-- reading took bytes of which this holds
pub record Takes (Holds : List ℕ → Type 0) (old new : Reading) : Type 0 where
  pub bytes : List ℕ
  pub took : Took bytes old new
  pub holds : Holds bytes

-- the next field isn't whole
pub record IsCutOff (Is : Field → Type 0) (reading : Reading) (fault : ValFault) : Type 0 where
  pub told : fault ≡ Short reading.place
  pub next : Field
  pub is : Is next
  pub short : length reading.left < room next reading.left

-- a form's bytes break off where a fault says
abbrev pub StopsIn : Form → Reading → ValFault → Type 0
StopsIn form reading (Short place) = (behind : ℕ) × (place ≡ reading.place + behind) × BreaksOffAt form reading.left behind
StopsIn form reading (Over place) = ⊥
StopsIn form reading OutOfMemory = Unit {0}
