use Rattle.std.proofs.Common.{List, ℕ, ◌++◌, ap, ◌∙◌}
use Rattle.link_lines.specs.Lines.{Fault, text_of}
use Rattle.link_lines.proofs.Telling.{on_ok, tells_fault}
use Rattle.link_lines.proofs.streams.tell.Goals as goal

pub returns-in-Said-clause-tells : goal.returns-in-Said-clause-tells
returns-in-Said-clause-tells g c =
    rw c.in-Said.is
    (on_ok c.push_fault.result
    (λ is whole events told.
    tells_fault g.S.Lines.Frames.Framing.size g.S.Lines.Shows.shows (g.S.Shower.shown c.args.shower.now) whole events c.args.bytes.now told c.push_fault.new.text
    (is ∙ ap (λ (p : List ℕ). c.args.text.now ++ text_of (Fault p c.args.bytes.now)) c.as_slice.ensures))
    c.push_fault.ensures)

pub returns-in-Called-clause-tells : goal.returns-in-Called-clause-tells
returns-in-Called-clause-tells g c = rw c.in-Called.is c.tell_call.ensures.tells
