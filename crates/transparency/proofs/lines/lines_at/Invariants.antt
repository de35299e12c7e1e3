use Rattle.std.proofs.Common.{map}
use Rattle.transparency.specs.Lines.{Shown, named_view}
use Rattle.transparency.proofs.lines.lines_at.Given as goal

abbrev pub invariant-loop-named : goal.invariant-loop-named
invariant-loop-named g l = Shown g.R.RunsTwice.trial (map named_view l.yielded) l.lines (g.B.Bench.runs l.initial.bench) (g.B.Bench.runs l.bench)
