use Rattle.std.proofs.Common.{◌∙◌}
use Rattle.number_space.proofs.Due.{due_row, none_due}
use Rattle.mbim_state.specs.Core.{MbimState}
use Rattle.mbim_core.specs.State.{state_of}
use Rattle.mbim_core.specs.Told.{rows_at}
use Rattle.mbim_core.proofs.Expires.{turns_end, turn_same, turn_less}
use Rattle.mbim_core.proofs.teller.Teller.expire.Goals as goal

pub returns-clause-told : goal.returns-clause-told
returns-clause-told c =
    let was : MbimState = state_of c.loop-name.connections c.loop-name.side in
    turns_end c.args.time was c.expire.new.self c.in_default.ensures.side (none_due c.args.time (rows_at was) c.in_default.ensures.due) ∙ c.loop-name.invariant.told

pub loop-name-preserved : goal.loop-name-preserved
loop-name-preserved c =
    let was : MbimState = state_of c.loop-name.connections c.loop-name.side in
    record {
      told =
          turn_same c.args.time was c.expire.new.self c.in-Some.ensures.side c.in-Some.name c.in-Some.asked (due_row c.args.time c.in-Some.name c.in-Some.asked (rows_at was) c.in-Some.ensures.due) (state_of c.refuse.new.connections c.refuse.new.side) c.refuse.ensures.told
          ∙ c.loop-name.invariant.told;
      agrees = c.refuse.ensures.agrees;
    }

pub loop-name-smaller : goal.loop-name-smaller
loop-name-smaller c =
    let was : MbimState = state_of c.loop-name.connections c.loop-name.side in
    turn_less c.args.time was c.expire.new.self c.in-Some.ensures.side c.in-Some.name c.in-Some.asked (due_row c.args.time c.in-Some.name c.in-Some.asked (rows_at was) c.in-Some.ensures.due) (state_of c.refuse.new.connections c.refuse.new.side) c.refuse.ensures.told
