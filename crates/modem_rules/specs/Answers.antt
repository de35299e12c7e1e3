-- What calls answer: only want of memory is free.
use Rattle.std.specs.Prelude.{◌≡◌, Option, Some, None, Result, Ok, Err}
use Rattle.serde_json.specs.Data.{Data}
use Rattle.serde_json.specs.View.{view}
use Rattle.serde_json.specs.declared.value.Value.{Value}
use Rattle.modem_rules.specs.declared.fault.RulesFault.{RulesFault}
use Rattle.modem_rules.specs.declared.fault.RulesFault.TheVariants.{Json, NoList, NoRule, OutOfMemory}

-- the value of a text, or that it has none
abbrev pub IsValue : Option Data → Result Value RulesFault → Type 0
IsValue value (Ok found) = value ≡ Some (view found)
IsValue value (Err Json) = value ≡ None
IsValue value (Err (NoList list)) = ⊥
IsValue value (Err (NoRule list place)) = ⊥
IsValue value (Err OutOfMemory) = Unit {0}

-- what is stated, or the stated fault
abbrev pub Gives : {T A : Type 0} → (T → A) → Result A RulesFault → Result T RulesFault → Type 0
Gives seen stated (Ok found) = stated ≡ Ok (seen found)
Gives seen stated (Err OutOfMemory) = Unit {0}
Gives seen stated (Err Json) = stated ≡ Err Json
Gives seen stated (Err (NoList list)) = stated ≡ Err (NoList list)
Gives seen stated (Err (NoRule list place)) = stated ≡ Err (NoRule list place)
