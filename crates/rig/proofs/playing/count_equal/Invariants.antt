use Rattle.std.proofs.Common.{◌≤◌}
use Rattle.rig.specs.Playing.{RunsEach}
use Rattle.rig.proofs.playing.count_equal.Given as goal

-- a core was run for the first so many
abbrev pub invariant-loop-index : goal.invariant-loop-index
invariant-loop-index g l = record {
  few : l.equal ≤ l.index;
  each : RunsEach g.R.Reading.reading g.P.Protocol.proxy g.P.Protocol.kind l.fn.trace l.index (g.B.Bench.runs l.initial.noting.bench) (g.B.Bench.runs l.noting.bench) l.equal;
}
