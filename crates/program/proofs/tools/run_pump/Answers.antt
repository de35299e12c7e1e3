use Rattle.std.proofs.Common.{arith, inl}
use Rattle.program.proofs.tools.run_pump.Goals as goal

pub returns-in-Ok-told_node-clause-line : goal.returns-in-Ok-told_node-clause-line
returns-in-Ok-told_node-clause-line g c =
    rw (c.in-Ok.ensures.asked, ← c.in-Ok-told_node.ensures)
    (λ none. inl (
      g.E.Sink.taken c.tell_node.new.err,
      rw (← c.as_ref.ensures.value) (c.tell_node.ensures.told (λ rose. none (omega (arith, rose, c.report.ensures.later)))),
      c.report.ensures.line (λ rose. none (omega (arith, rose, c.tell_node.ensures.later))),
    ))
