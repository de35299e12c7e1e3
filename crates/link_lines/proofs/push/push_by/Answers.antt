use Rattle.std.proofs.Common.{◌≡◌, ◌+◌, ◌≤◌, ℕ, length, slice_get, Some, None, drop, map, ap, sym, ◌∙◌, arith}
use Rattle.std.specs.Option.{option_map}
use Rattle.kit_io.specs.Record.{Noted, note_at}
use Rattle.watched_link.specs.declared.note.LinkNote.{LinkNote}
use Rattle.watched_link.specs.Notes.{event_of}
use Rattle.link_lines.proofs.Telling.{tells_as, tells_none, tells_all, known, next_is, none_behind, none_next}
use Rattle.link_lines.proofs.push.push_by.Goals as goal

pub loop-index-init : goal.loop-index-init
loop-index-init g c =
    let begun = c.in_ok-streams.ensures in
    record {
      sent_ready = begun.sent_ready;
      taken_ready = begun.taken_ready;
      telling = λ all is short. tells_none g.S.Lines.Frames.Framing.size g.S.Lines.Shows.shows (g.S.Shower.shown c.args.shower.now) (map event_of all) c.args.text.now c.in_ok-streams.streams.path short begun.path begun.sent begun.taken;
    }

pub tell-requires-clause-sent_ready : goal.tell-requires-clause-sent_ready
tell-requires-clause-sent_ready g c = c.loop-index.invariant.sent_ready

pub tell-requires-clause-taken_ready : goal.tell-requires-clause-taken_ready
tell-requires-clause-taken_ready g c = c.loop-index.invariant.taken_ready

pub loop-index-preserved : goal.loop-index-preserved
loop-index-preserved g c =
    let index : ℕ = c.loop-index.index in
    record {
      sent_ready = c.in_ok-tell.ensures.sent_ready;
      taken_ready = c.in_ok-tell.ensures.taken_ready;
      telling = λ all is short.
          let noted : Noted LinkNote = record { kind = c.in-Some.note; bytes = c.in-Some.bytes.now } in
          let got : slice_get all index ≡ Some noted = sym (c.in-Some.ensures (known is) ∙ ap (λ r. note_at r index) is) in
          c.in_ok-tell.ensures.tells _ (drop (index + 1) (map event_of all)) (tells_as (next_is all index noted got) (c.loop-index.invariant.telling all is short));
    }

pub returns-in_default : goal.returns-in_default
returns-in_default g c = λ all is short.
    let index : ℕ = c.loop-index.index in
    let none : slice_get all index ≡ None = sym (c.in_default.ensures (known is) ∙ ap (λ r. note_at r index) is) in
    tells_all g.S.Lines.Frames.Framing.size g.S.Lines.Shows.shows (g.S.Shower.shown c.args.shower.now) _ (drop index (map event_of all)) (c.loop-index.invariant.telling all is short) (none_next all index none)

pub returns : goal.returns
returns g c = λ all is short.
    let counted : Some c.len-index-end.result ≡ Some (length all) = c.len-index-end.ensures (known is) ∙ ap (option_map length) is in
    let count : c.len-index-end.result ≡ length all = cc in
    let few : length all ≤ c.loop-index.index = omega (arith, count, c.loop-index-test.false) in
    tells_all g.S.Lines.Frames.Framing.size g.S.Lines.Shows.shows (g.S.Shower.shown c.args.shower.now) _ (drop c.loop-index.index (map event_of all)) (c.loop-index.invariant.telling all is short) (none_behind all c.loop-index.index few)
