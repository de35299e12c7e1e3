use Rattle.link_lines.proofs.Telling.{on_ok, tells_sent, tells_taken}
use Rattle.link_lines.proofs.streams.tell_call.Goals as goal

pub returns-in-Sent-true-clause-tells : goal.returns-in-Sent-true-clause-tells
returns-in-Sent-true-clause-tells g c =
    let shown = g.S.Shower.shown c.args.shower.now in
    rw (c.in-Sent-true.is, c.in-Sent-true.ok-test)
    (on_ok c.push_shown.result
    (λ shows whole events told. tells_sent g.S.Lines.Frames.Framing.size g.S.Lines.Shows.shows shown whole events c.args.bytes.now told c.push_shown.new.text (λ before. shows shown before))
    c.push_shown.ensures.shows)

pub returns-in-Took-clause-tells : goal.returns-in-Took-clause-tells
returns-in-Took-clause-tells g c =
    let shown = g.S.Shower.shown c.args.shower.now in
    rw c.in-Took.is
    (on_ok c.push_shown-in-Took.result
    (λ shows whole events told. tells_taken g.S.Lines.Frames.Framing.size g.S.Lines.Shows.shows shown whole events c.args.bytes.now told c.push_shown-in-Took.new.text (λ before. shows shown before))
    c.push_shown-in-Took.ensures.shows)
