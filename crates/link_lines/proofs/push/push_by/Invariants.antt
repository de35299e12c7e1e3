use Rattle.std.proofs.Common.{◌≡◌, ◌++◌, [], List, Some, drop, map}
use Rattle.std.specs.List.{flat_map}
use Rattle.kit_io.specs.Record.{Noted}
use Rattle.watched_link.specs.declared.note.LinkNote.{LinkNote}
use Rattle.watched_link.specs.Notes.{event_of}
use Rattle.link_lines.specs.Directions.{AreShort, IsReady, Telling}
use Rattle.link_lines.specs.Lines.{parts_from, text_of}
use Rattle.link_lines.proofs.push.push_by.Given as goal

abbrev pub invariant-loop-index : goal.invariant-loop-index
invariant-loop-index g l =
    let size = g.S.Lines.Frames.Framing.size in
    let shown = g.S.Shower.shown l.shower in
    record {
      sent_ready : IsReady size l.streams.sent.good l.streams.sent.stream.cutter;
      taken_ready : IsReady size l.streams.taken.good l.streams.taken.stream.cutter;
      telling : (all : List (Noted LinkNote)) → l.notes.recorded ≡ Some all → AreShort (map event_of all)
          → Telling size g.S.Lines.Shows.shows shown (l.initial.text ++ flat_map text_of (parts_from size shown [] [] [] (map event_of all))) (drop l.index (map event_of all)) l.text l.streams.path
          l.streams.sent.good l.streams.sent.stream.cutter l.streams.sent.stream.state l.streams.sent.stream.place l.streams.taken.good l.streams.taken.stream.cutter l.streams.taken.stream.state l.streams.taken.stream.place;
    }
