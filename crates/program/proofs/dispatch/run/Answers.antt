use Rattle.std.proofs.Common.{arith, inl}
use Rattle.kit_io.proofs.Growth.{Grows-none}
use Rattle.program.proofs.dispatch.run.Goals as goal

pub returns-in-Ok-told_node-clause-line : goal.returns-in-Ok-told_node-clause-line
returns-in-Ok-told_node-clause-line g c =
    rw (c.in-Ok.ensures.asked, ← c.told_kind-kind.ensures, ← c.in-Ok-told_node.ensures)
    (λ none. inl (
      g.E.Sink.taken c.tell_node.new.err,
      rw (← c.as_ref.ensures.value) (c.tell_node.ensures.told (λ rose. none (omega (arith, rose, c.report_behind.ensures.later)))),
      c.report_behind.ensures.line (λ rose. none (omega (arith, rose, c.tell_node.ensures.later))),
    ))

pub returns-in-Err-Usage-clause-line : goal.returns-in-Err-Usage-clause-line
returns-in-Err-Usage-clause-line g c =
    rw (rw c.in-Err-Usage.field-0-is at c.in-Err-Usage.ensures.asked) (λ none. inl (g.E.Sink.taken c.args.err.now, Grows-none _, c.refuse_for.ensures.line none))
