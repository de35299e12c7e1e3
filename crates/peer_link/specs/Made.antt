-- The calls that a link keeps.
use Rattle.std.specs.Prelude.{true}
use Rattle.link_io.specs.Calls as calls
use Rattle.peer_link.specs.declared.link.Made.{Made}
use Rattle.peer_link.specs.declared.link.Made.TheVariants.{Sent, Took, WasQuiet}

abbrev pub call_of : Made → calls.Call
call_of (Sent text) = calls.Sent text true
call_of (Took piece) = calls.Took piece
call_of WasQuiet = calls.WasQuiet
