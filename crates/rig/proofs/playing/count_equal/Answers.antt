use Rattle.std.proofs.Common.{◌≡◌, ◌+◌, ◌<◌, ◌≤◌, Bool, true, false, if◌then◌else◌, ℕ, sym, subst, arith, rules}
use Rattle.rig_stage.proofs.Stopping.{also_on_err}
use Rattle.rig.specs.Playing.{RunsEach}
use Rattle.rig.proofs.Running.{one_more_runs}
use Rattle.rig.proofs.Stopping.{each_stops}
use Rattle.rig.proofs.playing.count_equal.Goals as goal
use Rattle.rig.proofs.playing.count_equal.Goals.{then-branch, else-branch}

few_then : (equal index : ℕ) (same : Bool) → equal ≤ index → (if same then equal + 1 else equal) ≤ index + 1
few_then equal index true few = omega (arith, few)
few_then equal index false few = omega (arith, few)

pub loop-index-preserved : goal.loop-index-preserved
loop-index-preserved g c =
    let before = c.loop-index.invariant in
    let same : Bool = c.in_ok-is_equal.field-0 in
    let now : c.if-branch.equal ≡ (if same then c.loop-index.equal + 1 else c.loop-index.equal) = elim c.if-branch.branch [
      | then-branch w ↦ (let t = w.if-branch.true in let e = w.equal-is in cc)
      | else-branch w ↦ (let t = w.if-branch.false in let e = w.equal-is in cc)
    ] in
    let Each : ℕ → Type 0 = λ equal. RunsEach g.R.Reading.reading g.P.Protocol.proxy g.P.Protocol.kind c.args.trace.now (c.loop-index.index + 1) (g.B.Bench.runs c.args.noting.now.bench) (g.B.Bench.runs c.is_equal.new.noting.bench) equal in
    record {
      few = subst (λ (equal : ℕ). equal ≤ c.loop-index.index + 1) (sym now) (few_then c.loop-index.equal c.loop-index.index same before.few);
      each = subst Each (sym now)
          (one_more_runs g.R.Reading.reading g.P.Protocol.proxy g.P.Protocol.kind c.args.trace.now c.loop-index.index c.loop-index.equal (c.from.result + 1) same
          (g.B.Bench.runs c.args.noting.now.bench) (g.B.Bench.runs c.loop-index.noting.bench) (g.B.Bench.runs c.is_equal.new.noting.bench) (omega (arith, c.from.ensures)) before.each c.in_ok-is_equal.ensures.one);
    }

pub returns-in_err-is_equal-clause-stops : goal.returns-in_err-is_equal-clause-stops
returns-in_err-is_equal-clause-stops g c =
    let within : c.loop-index.index < c.args.clients = search rules in
    also_on_err c.from_residual.result
    (each_stops g.R.Reading.reading g.P.Protocol.proxy g.P.Protocol.kind c.args.trace.now c.loop-index.index (c.from.result + 1) c.args.clients (omega (arith, c.from.ensures)) (omega (arith, c.from.ensures, within))
    (g.B.Bench.runs c.args.noting.now.bench) (g.B.Bench.runs c.loop-index.noting.bench) (g.B.Bench.runs c.is_equal.new.noting.bench) c.loop-index.equal c.loop-index.invariant.each c.in_err-is_equal.ensures.stops)
