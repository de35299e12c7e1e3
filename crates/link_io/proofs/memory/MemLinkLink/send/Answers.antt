use Rattle.std.proofs.Common.{sym, take-append-drop}
use Rattle.kit_io.proofs.Growth.{Grows-map}
use Rattle.link_io.specs.Made.{call_of}
use Rattle.link_io.proofs.memory.MemLinkLink.send.Goals as goal

pub returns-in-Some-Fails-clause-calls : goal.returns-in-Some-Fails-clause-calls
returns-in-Some-Fails-clause-calls c = record {
  front = _;
  rest = _;
  whole = sym (take-append-drop _ c.args.bytes.now);
  grows = Grows-map call_of c.note.ensures.grows;
}
