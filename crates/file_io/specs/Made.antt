-- The notes of files in memory, as calls.
use Rattle.std.specs.Prelude.{ℕ, List, map, Option}
use Rattle.std.specs.Option.{option_map}
use Rattle.kit_io.specs.Record.{Noted}
use Rattle.file_io.specs.declared.memory.Made.{Made}
use Rattle.file_io.specs.declared.memory.Made.TheVariants as made
use Rattle.file_io.specs.Calls.{Call, Opened, Gave, ReadFailed, Took, WriteFailed, Closed}

abbrev pub call_as : Made → List ℕ → Call
call_as (made.Opened side ok) bytes = Opened bytes side ok
call_as made.Gave bytes = Gave bytes
call_as made.ReadFailed bytes = ReadFailed
call_as made.Took bytes = Took bytes
call_as made.WriteFailed bytes = WriteFailed
call_as made.Closed bytes = Closed

abbrev pub call_of : Noted Made → Call
call_of note = call_as note.kind note.bytes

abbrev pub calls_of : Option (List (Noted Made)) → Option (List Call)
calls_of recorded = option_map (map call_of) recorded
