use Rattle.std.proofs.Common.{◌<◌, ◌≤◌, length, ◌∙◌, refl, le_refl, rules}
use Rattle.rig_runs.specs.Stage as rig
use Rattle.rig_stage.proofs.Acting.{on_ok}
use Rattle.rig_stage.proofs.Stopping.{on_err, also_on_err}
use Rattle.rig_stage.proofs.Arriving.{hearing_piece, hearing_last, hearing_stops, hearing_last_stops}
use Rattle.rig_stage.proofs.stage.Stage.arrive.Goals as goal

pub loop-rest-init : goal.loop-rest-init
loop-rest-init g c = record {
  hearing = λ cast opened earlier stage it. record { now = stage; plays = it; count = length c.args.message.now; enough = le_refl _; rest = refl };
  ready = record { ready = c.requires; greatest = refl };
  clients = refl;
  time = refl;
}

pub loop-rest-preserved : goal.loop-rest-preserved
loop-rest-preserved g c =
    let i = c.loop-rest.invariant in
    let met = c.in_ok-meet.ensures in
    let long : 16384 < length c.loop-rest.rest.now = search rules in
    record {
      hearing = λ cast opened earlier stage it.
          hearing_piece cast opened earlier (rig.arrive cast c.args.message.now stage) c.loop-rest.rest.now c.split_at.result.0.now c.split_at.result.1.now c.split_at.ensures.front c.split_at.ensures.back long met.acts (i.hearing cast opened earlier stage it);
      ready = record { ready = met.ready; greatest = met.greatest ∙ i.ready.greatest };
      clients = met.clients ∙ i.clients;
      time = met.time ∙ i.time;
    }

pub returns-clause-acts : goal.returns-clause-acts
returns-clause-acts g c =
    let short : length c.loop-rest.rest.now ≤ 16384 = search rules in
    on_ok c.meet-2.result
    (λ acts. record {
      plays = λ cast opened earlier stage it. hearing_last cast opened earlier (rig.arrive cast c.args.message.now stage) c.loop-rest.rest.now short acts (c.loop-rest.invariant.hearing cast opened earlier stage it);
    })
    c.meet-2.ensures.acts

pub returns-clause-stops : goal.returns-clause-stops
returns-clause-stops g c =
    let short : length c.loop-rest.rest.now ≤ 16384 = search rules in
    on_err c.meet-2.result
    (λ stops. record {
      cut_short = λ cast opened earlier stage it. hearing_last_stops cast opened earlier (rig.arrive cast c.args.message.now stage) c.loop-rest.rest.now short stops (c.loop-rest.invariant.hearing cast opened earlier stage it);
    })
    c.meet-2.ensures.stops

pub returns-in_err-meet-clause-stops : goal.returns-in_err-meet-clause-stops
returns-in_err-meet-clause-stops g c =
    let long : 16384 < length c.loop-rest.rest.now = search rules in
    also_on_err c.from_residual.result
    (record {
      cut_short = λ cast opened earlier stage it.
          hearing_stops cast opened earlier (rig.arrive cast c.args.message.now stage) c.loop-rest.rest.now c.split_at.result.0.now c.split_at.ensures.front long c.in_err-meet.ensures.stops (c.loop-rest.invariant.hearing cast opened earlier stage it);
    })
