-- What an object's fault is here.
use Rattle.std.specs.Prelude.{Bool, true, false}
use Rattle.message_tables.specs.declared.fault.ObjectFault.{ObjectFault}
use Rattle.message_tables.specs.declared.fault.ObjectFault.TheVariants as object
use Rattle.named_messages.specs.declared.fault.NamedFault.{NamedFault}
use Rattle.named_messages.specs.declared.fault.NamedFault.TheVariants.{Member, Format, Twice, Deep, OutOfMemory}

abbrev pub of_object : ObjectFault → NamedFault
of_object (object.Member which) = Member which
of_object object.Format = Format
of_object object.Twice = Twice
of_object object.Deep = Deep
of_object object.OutOfMemory = OutOfMemory

abbrev pub is_memory : ObjectFault → Bool
is_memory (object.Member which) = false
is_memory object.Format = false
is_memory object.Twice = false
is_memory object.Deep = false
is_memory object.OutOfMemory = true
