use Rattle.std.proofs.Common.{arith}
use Rattle.program.proofs.watching.report_behind.Goals as goal

pub returns-clause-line : goal.returns-clause-line
returns-clause-line g c =
    rw (c.in-Some.is, ← c.notes.ensures.same)
    (λ none. (
      g.E.Sink.taken c.tell.new.err,
      c.tell.ensures.told (λ rose. none (omega (arith, rose, c.report-2.ensures.later))),
      c.report-2.ensures.line (λ rose. none (omega (arith, rose, c.tell.ensures.later))),
    ))
