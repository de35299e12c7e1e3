use Rattle.std.proofs.Common.{◌≡◌, ◌+◌, ◌-◌, ℤ, pos, inl, inr, w32, of_z, to_z, map, string_bytes, refl, ap, sym, ◌∙◌, subst, rules, arith}
use Rattle.std.proofs.lemmas.Int.{to_z-of_z}
use mir.Val.{SFits}
use Rattle.sim_supervision.specs.Supervision.{GrowsBySupervision}
use Rattle.sim_supervision.specs.declared.supervision.SupervisionEnd.TheVariants.{Ended}
use Rattle.sim_supervision.proofs.Again.{HasRun, HasRun-more, HasRun-ends, HasRun-fails}
use Rattle.sim_supervision.proofs.supervision.supervise.Goals as goal

pub returns-in-Err-clause-keeps : goal.returns-in-Err-clause-keeps
returns-in-Err-clause-keeps g c = HasRun-fails c.loop.invariant.run c.args.most c.loop.invariant.again _ c.in-Err.ensures.run

pub returns-then-status-eq0-clause-keeps : goal.returns-then-status-eq0-clause-keeps
returns-then-status-eq0-clause-keeps g c =
    let fits : SFits w32 c.in-Ok.status = search rules in
    let same = to_z-of_z w32 c.in-Ok.status fits in
    subst
    (λ s. GrowsBySupervision (map string_bytes c.args.words.now) c.args.most (g.P.Spawner.calls c.args.spawner.now) (Ended s) (g.P.Spawner.calls c.run_once.new.spawner))
    (sym same)
    (HasRun-ends c.loop.invariant.run c.args.most c.loop.invariant.again c.in-Ok.status (inl (sym same ∙ ap (to_z w32) c.if-status-eq0.true)) c.in-Ok.ensures.run)

pub loop-preserved : goal.loop-preserved
loop-preserved g c =
    let more = HasRun-more c.loop.invariant.run c.in-Ok.status (λ is. c.if-status-eq0.false (ap (of_z w32) is)) c.in-Ok.ensures.run in
    record {
      run = subst (λ n. HasRun (map string_bytes c.args.words.now) n (g.P.Spawner.calls c.args.spawner.now) (g.P.Spawner.calls c.run_once.new.spawner)) (omega (arith, c.loop.invariant.begun)) more;
      begun = omega (arith, c.loop.invariant.begun);
      again = omega (arith, c.loop.invariant.begun, c.loop-test.true);
      later = search rules;
    }

pub returns-in-Ok-run_once-clause-keeps : goal.returns-in-Ok-run_once-clause-keeps
returns-in-Ok-run_once-clause-keeps g c =
    let fits : SFits w32 c.in-Ok-run_once.status = search rules in
    subst
    (λ s. GrowsBySupervision (map string_bytes c.args.words.now) c.args.most (g.P.Spawner.calls c.args.spawner.now) (Ended s) (g.P.Spawner.calls c.run_once-2.new.spawner))
    (sym (to_z-of_z w32 c.in-Ok-run_once.status fits))
    (HasRun-ends c.loop.invariant.run c.args.most c.loop.invariant.again c.in-Ok-run_once.status (inr (omega (arith, c.loop.invariant.begun, c.loop-test.false))) c.in-Ok-run_once.ensures.run)

pub returns-in-Err-run_once-clause-keeps : goal.returns-in-Err-run_once-clause-keeps
returns-in-Err-run_once-clause-keeps g c = HasRun-fails c.loop.invariant.run c.args.most c.loop.invariant.again _ c.in-Err-run_once.ensures.run
