-- What calls answer: only want of memory is free.
use Rattle.std.specs.Prelude.{◌≡◌, Option, Some, None, Result, Ok, Err}
use Rattle.serde_json.specs.Data.{Data}
use Rattle.serde_json.specs.View.{view}
use Rattle.serde_json.specs.declared.value.Value.{Value}
use Rattle.modem_profile.specs.declared.fault.MemberName.{MemberName}
use Rattle.modem_profile.specs.declared.fault.ProfileFault.{ProfileFault}
use Rattle.modem_profile.specs.declared.fault.ProfileFault.TheVariants.{Json, Member, OutOfMemory}

-- the value of a text, or that it has none
abbrev pub IsValue : Option Data → Result Value ProfileFault → Type 0
IsValue value (Ok found) = value ≡ Some (view found)
IsValue value (Err Json) = value ≡ None
IsValue value (Err (Member name)) = ⊥
IsValue value (Err OutOfMemory) = Unit {0}

-- what a member gives, or that it is faulty
abbrev pub Gives : {T A : Type 0} → (T → A) → Result A MemberName → Result T ProfileFault → Type 0
Gives seen stated (Ok found) = stated ≡ Ok (seen found)
Gives seen stated (Err Json) = ⊥
Gives seen stated (Err (Member name)) = stated ≡ Err name
Gives seen stated (Err OutOfMemory) = Unit {0}

-- the stated profile, or the stated fault
abbrev pub Answers : {A : Type 0} → Result A ProfileFault → Result A ProfileFault → Type 0
Answers stated (Ok profile) = stated ≡ Ok profile
Answers stated (Err Json) = stated ≡ Err Json
Answers stated (Err (Member name)) = stated ≡ Err (Member name)
Answers stated (Err OutOfMemory) = Unit {0}
