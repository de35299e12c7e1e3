use Rattle.std.proofs.Common.{◌≡◌, ℕ, ◌+◌, ◌<◌, ◌≤◌, [], length, drop, get_or, refl, ap, ◌∙◌, arith, rules, drop_of_length-le}
use Rattle.rig_runs.specs.Stage as rig
use Rattle.rig_stage.proofs.Arriving.{drop_first, arriving_one, arriving_done, arriving_stops}
use Rattle.rig_stage.proofs.Stopping.{also_on_err}
use Rattle.rig_stage.proofs.stage.Stage.all_arrive.Goals as goal

pub loop-place-init : goal.loop-place-init
loop-place-init g c = record {
  arriving = λ cast opened earlier stage it. record { now = stage; plays = it; rest = refl };
  ready = record { ready = c.requires; greatest = refl };
  clients = refl;
  time = refl;
}

pub loop-place-preserved : goal.loop-place-preserved
loop-place-preserved g c =
    let i = c.loop-place.invariant in
    let arrived = c.in_ok-longest_arrives.ensures in
    let place : ℕ = c.loop-place._place in
    let within : place < length c.args.self.now.held = search rules in
    record {
      arriving = λ cast opened earlier stage it.
          let inside : place < length stage.held = omega (arith, within, ap length it.holds.held) in
          arriving_one cast opened earlier (rig.all_arrive cast stage) (drop place stage.held) (get_or stage.held place []) (drop (place + 1) stage.held) (drop_first stage.held place inside) arrived.acts (i.arriving cast opened earlier stage it);
      ready = record { ready = arrived.ready.ready; greatest = arrived.ready.greatest ∙ i.ready.greatest };
      clients = arrived.clients ∙ i.clients;
      time = arrived.time ∙ i.time;
    }

pub returns-clause-acts : goal.returns-clause-acts
returns-clause-acts g c =
    let all : length c.args.self.now.held ≤ c.loop-place._place = search rules in
    record {
      plays = λ cast opened earlier stage it.
          let none : drop c.loop-place._place stage.held ≡ [] = drop_of_length-le stage.held (omega (arith, all, ap length it.holds.held)) in
          arriving_done cast opened earlier (rig.all_arrive cast stage) (drop c.loop-place._place stage.held) _ _ none (c.loop-place.invariant.arriving cast opened earlier stage it);
    }

pub returns-in_err-longest_arrives-clause-stops : goal.returns-in_err-longest_arrives-clause-stops
returns-in_err-longest_arrives-clause-stops g c =
    let place : ℕ = c.loop-place._place in
    let within : place < length c.args.self.now.held = search rules in
    also_on_err c.from_residual.result
    (record {
      cut_short = λ cast opened earlier stage it.
          let inside : place < length stage.held = omega (arith, within, ap length it.holds.held) in
          arriving_stops cast opened earlier (rig.all_arrive cast stage) (drop place stage.held) (get_or stage.held place []) (drop (place + 1) stage.held) (drop_first stage.held place inside) c.in_err-longest_arrives.ensures.stops
          (c.loop-place.invariant.arriving cast opened earlier stage it);
    })
