-- What calls answer: only want of memory is free.
use Rattle.std.specs.Prelude.{◌≡◌, Result, Ok, Err}
use Rattle.message_tables.specs.Messages.{MessageForm}
use Rattle.message_tables.specs.View.{message_view}
use Rattle.message_tables.specs.declared.message.Message as declared
use Rattle.named_messages.specs.declared.fault.NamedFault.{NamedFault}
use Rattle.named_messages.specs.declared.fault.NamedFault.TheVariants.{Json, Missing, Several, Member, Format, Twice, Deep, OutOfMemory}

-- the stated message, or the stated fault
abbrev pub Finds : Result MessageForm NamedFault → Result declared.Message NamedFault → Type 0
Finds stated (Ok message) = stated ≡ Ok (message_view message)
Finds stated (Err OutOfMemory) = Unit {0}
Finds stated (Err Json) = stated ≡ Err Json
Finds stated (Err Missing) = stated ≡ Err Missing
Finds stated (Err Several) = stated ≡ Err Several
Finds stated (Err (Member which)) = stated ≡ Err (Member which)
Finds stated (Err Format) = stated ≡ Err Format
Finds stated (Err Twice) = stated ≡ Err Twice
Finds stated (Err Deep) = stated ≡ Err Deep
