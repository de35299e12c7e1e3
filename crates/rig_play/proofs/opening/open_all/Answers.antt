use Rattle.std.proofs.Common.{◌≡◌, ◌<◌, ℕ, fold, refl, ◌∙◌, subst, arith, rules}
use Rattle.std.specs.List.{range_with_len}
use Rattle.rig_runs.specs.Rig as rig
use Rattle.rig_stage.specs.Stage.{Acts}
use Rattle.rig_play.specs.Play.{script_of}
use Rattle.rig_stage.proofs.Stopping.{also_on_err}
use Rattle.rig_play.proofs.Taking.{acts_none, acts_more}
use Rattle.rig_play.proofs.Halting.{open_more, acts_stop}
use Rattle.rig_play.proofs.opening.open_all.Given.{Over}
use Rattle.rig_play.proofs.opening.open_all.Goals as goal

abbrev script : Over → rig.Script
script g = script_of g.P.Protocol.first g.P.Protocol.second g.P.Protocol.asks g.P.Protocol.FIRST_NUMBER

pub loop-index-init : goal.loop-index-init
loop-index-init g c = record { acts = acts_none (λ cast. rig.open_device cast (script g)) _ _; ready = c.requires; clients = refl; time = refl }

pub loop-index-preserved : goal.loop-index-preserved
loop-index-preserved g c =
    let i = c.loop-index.invariant in
    let opened = c.in_ok-open_device.ensures in
    record {
      acts = acts_more (λ cast. rig.open_device cast (script g)) c.loop-index.index _ (omega (arith, c.from.ensures)) i.acts opened.acts;
      ready = opened.ready.ready;
      clients = opened.clients ∙ i.clients;
      time = opened.time ∙ i.time;
    }

pub returns-clause-acts : goal.returns-clause-acts
returns-clause-acts g c =
    let done : c.loop-index.index ≡ c.args.clients = search rules in
    let Opened : ℕ → Type 0 = λ count. Acts g.B.Bench.keeps g.B.Bench.runs g.P.Modem.Sim.keeps g.P.Modem.Framing.Framing.size (λ cast now. fold (rig.open_device cast (script g)) now (range_with_len 1 count)) c.args.stage.now c.args.bench.now c.loop-index.stage c.loop-index.bench in
    subst Opened done c.loop-index.invariant.acts

pub returns-in_err-open_device-clause-stops : goal.returns-in_err-open_device-clause-stops
returns-in_err-open_device-clause-stops g c =
    let within : c.loop-index.index < c.args.clients = search rules in
    also_on_err c.from_residual.result
    (acts_stop (λ cast. rig.open_device cast (script g)) (λ cast n. open_more cast (script g) n) c.loop-index.index _ c.args.clients (omega (arith, c.from.ensures)) within c.loop-index.invariant.acts c.in_err-open_device.ensures.stops)
