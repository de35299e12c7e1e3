-- The notes of a link in memory, as calls.
use Rattle.std.specs.Prelude.{ℕ, List, map, Option}
use Rattle.std.specs.Option.{option_map}
use Rattle.kit_io.specs.Record.{Noted}
use Rattle.link_io.specs.declared.memory.Made.{Made}
use Rattle.link_io.specs.declared.memory.Made.TheVariants as made
use Rattle.link_io.specs.Target.{AtSocket, AtBridge}
use Rattle.link_io.specs.Calls.{Call, Opened, Paired, Sent, Took, WasQuiet, WasEnd, TakeFailed, Closed}

abbrev pub call_as : Made → List ℕ → Call
call_as (made.Opened ok) bytes = Opened (AtSocket bytes) ok
call_as (made.OpenedBridge ok) bytes = Opened (AtBridge bytes) ok
call_as (made.Paired ok) bytes = Paired ok
call_as (made.Sent ok) bytes = Sent bytes ok
call_as made.Took bytes = Took bytes
call_as made.WasQuiet bytes = WasQuiet
call_as made.WasEnd bytes = WasEnd
call_as made.TakeFailed bytes = TakeFailed
call_as made.Closed bytes = Closed

abbrev pub call_of : Noted Made → Call
call_of note = call_as note.kind note.bytes

abbrev pub calls_of : Option (List (Noted Made)) → Option (List Call)
calls_of recorded = option_map (map call_of) recorded
