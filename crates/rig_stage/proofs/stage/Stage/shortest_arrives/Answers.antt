use Rattle.std.proofs.Common.{rules}
use Rattle.rig_stage.proofs.Acting.{on_ok}
use Rattle.rig_stage.proofs.Stopping.{on_err}
use Rattle.rig_stage.proofs.Arriving.{shortest_one, shortest_stops}
use Rattle.rig_stage.proofs.stage.Stage.shortest_arrives.Goals as goal

pub returns-in-Some-clause-acts : goal.returns-in-Some-clause-acts
returns-in-Some-clause-acts g c =
    on_ok c.arrive.result (λ acts. shortest_one c.in-Some.message c.as_slice.result.now c.pop_back.new.self.items {old = c.args.self.now} (search rules) (search rules) c.as_slice.ensures acts) c.arrive.ensures.acts

pub returns-in-Some-clause-stops : goal.returns-in-Some-clause-stops
returns-in-Some-clause-stops g c =
    on_err c.arrive.result (λ stops. shortest_stops c.in-Some.message c.as_slice.result.now c.pop_back.new.self.items {old = c.args.self.now} (search rules) (search rules) c.as_slice.ensures stops) c.arrive.ensures.stops
