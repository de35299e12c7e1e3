use Rattle.std.proofs.Common.{◌≡◌, ◌<◌, ℕ, fold, refl, ◌∙◌, subst, arith, rules}
use Rattle.std.specs.List.{range_with_len}
use Rattle.rig_runs.specs.Rig as rig
use Rattle.rig_stage.specs.Stage.{Acts}
use Rattle.rig_stage.proofs.Stopping.{also_on_err}
use Rattle.rig_play.proofs.Taking.{acts_none, acts_more}
use Rattle.rig_play.proofs.Halting.{join_more, acts_stop}
use Rattle.rig_play.proofs.opening.join_all.Goals as goal

pub loop-index-init : goal.loop-index-init
loop-index-init g c = record { acts = acts_none rig.join _ _; ready = c.requires.ready; greatest = c.requires.new; clients = refl; time = refl }

pub loop-index-preserved : goal.loop-index-preserved
loop-index-preserved g c =
    let i = c.loop-index.invariant in
    let joined = c.in_ok-join.ensures in
    record {
      acts = acts_more rig.join c.loop-index.index _ (omega (arith, c.from.ensures)) i.acts joined.acts;
      ready = joined.ready;
      greatest = joined.greatest ∙ omega (arith, c.from.ensures);
      clients = joined.clients ∙ i.clients;
      time = joined.time ∙ i.time;
    }

pub returns-clause-acts : goal.returns-clause-acts
returns-clause-acts g c =
    let done : c.loop-index.index ≡ c.args.clients = search rules in
    let Joined : ℕ → Type 0 = λ count. Acts g.B.Bench.keeps g.B.Bench.runs g.S.Sim.keeps g.S.Framing.Framing.size (λ cast now. fold (rig.join cast) now (range_with_len 1 count)) c.args.stage.now c.args.bench.now c.loop-index.stage c.loop-index.bench in
    subst Joined done c.loop-index.invariant.acts

pub returns-in_err-join-clause-stops : goal.returns-in_err-join-clause-stops
returns-in_err-join-clause-stops g c =
    let within : c.loop-index.index < c.args.clients = search rules in
    also_on_err c.from_residual.result (acts_stop rig.join (λ cast n. join_more cast n) c.loop-index.index _ c.args.clients (omega (arith, c.from.ensures)) within c.loop-index.invariant.acts c.in_err-join.ensures.stops)
