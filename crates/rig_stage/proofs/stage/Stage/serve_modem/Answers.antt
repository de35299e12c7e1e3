use Rattle.std.proofs.Common.{◌≡◌, ◌∙◌}
use Rattle.rig_runs.specs.Stage as rig
use Rattle.rig_stage.proofs.Acting.{modem_is_served}
use Rattle.rig_stage.proofs.Stopping.{also_on_err, stops_here, served_more}
use Rattle.rig_stage.proofs.stage.Stage.serve_modem.Goals as goal

pub returns-clause-acts : goal.returns-clause-acts
returns-clause-acts g c =
    let all : c.as_slice.result.now ≡ (g.B.Bench.face c.args.bench.now).modem_queue = c.as_slice.ensures ∙ c.in_ok-queue.ensures ∙ c.modem_parts.ensures in
    modem_is_served c.as_slice.result.now c.in_ok-ask_all.ensures.asks c.modem_takes.ensures.met
    (λ p past kept. all ∙ (g.met.B.Bench.shows p past c.args.bench.now kept).1.modem_queue) c.in_ok-ask_all.ensures.clients c.in_ok-ask_all.ensures.time

pub returns-in_err-queue-clause-stops : goal.returns-in_err-queue-clause-stops
returns-in_err-queue-clause-stops g c = also_on_err c.from_residual.result (stops_here c.args.bench.now rig.modem_served served_more)

pub returns-in_err-ask_all-clause-stops : goal.returns-in_err-ask_all-clause-stops
returns-in_err-ask_all-clause-stops g c = also_on_err c.from_residual-in_err-ask_all.result (stops_here c.args.bench.now rig.modem_served served_more)
