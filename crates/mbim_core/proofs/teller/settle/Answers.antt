use Rattle.std.proofs.Common.{sym, ◌∙◌}
use Rattle.number_space.proofs.Due.{found_row}
use Rattle.mbim_state.specs.Core.{MbimState}
use Rattle.mbim_core.specs.Answer.{heard_of}
use Rattle.mbim_core.specs.State.{state_of}
use Rattle.mbim_core.specs.Told.{rows_at}
use Rattle.mbim_core.proofs.Responses.{late_settles, waiting_settles}
use Rattle.mbim_core.proofs.teller.settle.Goals as goal

pub returns-then-not-waits-clause-settles : goal.returns-then-not-waits-clause-settles
returns-then-not-waits-clause-settles c = λ table.
    let was : MbimState = state_of table c.args.side.now in
    (late_settles (heard_of c.args.answer) c.args.number was c.in_ok-name.name c.in_ok-name.asked c.in_ok-name.waits (found_row c.args.number c.in_ok-name.name c.in_ok-name.asked c.in_ok-name.waits (rows_at was) c.in_ok-name.ensures)
    (sym c.is_for.ensures ∙ c.if-not-is_for.false) c.free.new.self c.free.ensures c.if-not-waits.true)

pub returns-clause-settles : goal.returns-clause-settles
returns-clause-settles c = λ table.
    let was : MbimState = state_of table c.args.side.now in
    (waiting_settles (heard_of c.args.answer) c.args.number was c.in_ok-name.name c.in_ok-name.asked c.in_ok-name.waits (found_row c.args.number c.in_ok-name.name c.in_ok-name.asked c.in_ok-name.waits (rows_at was) c.in_ok-name.ensures)
    (sym c.is_for.ensures ∙ c.if-not-is_for.false) c.free.new.self c.free.ensures c.if-not-waits.false)
