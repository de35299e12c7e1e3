use Rattle.std.proofs.Common.{length, refl, ap, ◌∙◌, arith}
use Rattle.rig_stage.proofs.Going.{stays, met_none, moved_then}
use Rattle.rig_stage.proofs.running.hang_up.Goals as goal

pub loop-dropped-init : goal.loop-dropped-init
loop-dropped-init g c = record { held = c.requires; greatest = refl; met = stays _ }

pub loop-dropped-preserved : goal.loop-dropped-preserved
loop-dropped-preserved g c =
    let i = c.loop-dropped.invariant in
    record {
      held = c.in-Some.ensures.held;
      greatest = c.in-Some.ensures.next.greatest ∙ i.greatest;
      met = moved_then i.met (met_none c.in-Some.ensures.keeps c.in-Some.ensures.runs);
    }

pub loop-dropped-smaller : goal.loop-dropped-smaller
loop-dropped-smaller g c = let fewer = ap length c.in-Some.ensures.next.dropped in omega arith

pub returns : goal.returns
returns g c =
    let i = c.loop-dropped.invariant in
    let next = c.in_default.ensures.next in
    record {
      ready = record {
        ready = record { held = c.in_default.ensures.held; asked = ap (λ bench. (g.B.Bench.face bench).dropped) next.1 ∙ next.0 };
        greatest = ap (λ bench. (g.B.Bench.face bench).greatest) next.1 ∙ i.greatest;
      };
      met = moved_then i.met (met_none c.in_default.ensures.keeps c.in_default.ensures.runs);
    }
