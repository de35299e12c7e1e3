-- What reading tables answers: only want of memory is free.
use Rattle.std.specs.Prelude.{◌≡◌, List, Option, Some, None, Result, Ok, Err}
use Rattle.serde_json.specs.Data.{Data}
use Rattle.serde_json.specs.View.{view}
use Rattle.serde_json.specs.declared.value.Value.{Value}
use Rattle.message_tables.specs.declared.fault.TableFault.{TableFault}
use Rattle.message_tables.specs.declared.fault.TableFault.TheVariants.{Json, Member, Format, Twice, Deep, OutOfMemory}
use Rattle.message_tables.specs.declared.message.Message.{Message}
use Rattle.message_tables.specs.Messages.{MessageForm}
use Rattle.message_tables.specs.View.{messages_in}

-- the value of a text, or that it has none
abbrev pub IsValue : Option Data → Result Value TableFault → Type 0
IsValue value (Ok found) = value ≡ Some (view found)
IsValue value (Err Json) = value ≡ None
IsValue value (Err (Member entry which)) = ⊥
IsValue value (Err (Format entry)) = ⊥
IsValue value (Err (Twice entry)) = ⊥
IsValue value (Err (Deep entry)) = ⊥
IsValue value (Err OutOfMemory) = Unit {0}

-- the stated messages, or the stated fault
abbrev pub Answers : Result (List MessageForm) TableFault → Result (List Message) TableFault → Type 0
Answers stated (Ok tables) = stated ≡ Ok (messages_in tables)
Answers stated (Err Json) = stated ≡ Err Json
Answers stated (Err (Member entry which)) = stated ≡ Err (Member entry which)
Answers stated (Err (Format entry)) = stated ≡ Err (Format entry)
Answers stated (Err (Twice entry)) = stated ≡ Err (Twice entry)
Answers stated (Err (Deep entry)) = stated ≡ Err (Deep entry)
Answers stated (Err OutOfMemory) = Unit {0}
