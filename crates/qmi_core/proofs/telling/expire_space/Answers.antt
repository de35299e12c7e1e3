use Rattle.std.proofs.Common.{◌<◌, ap, ◌∙◌, subst}
use Rattle.number_space.proofs.Due.{waiting_count, due_row, none_due}
use Rattle.proxy_core.specs.Meaning.{state_of}
use Rattle.qmi_state.specs.Core.{ModemSide, QmiState}
use Rattle.qmi_state.specs.Transitions.{expires_space}
use Rattle.qmi_core.proofs.Inside.{side_in}
use Rattle.qmi_core.proofs.Expires.{rows_at}
use Rattle.qmi_core.proofs.Turns.{turns_end, turn_same, turn_less}
use Rattle.qmi_core.proofs.telling.expire_space.Goals as goal

pub returns-clause-told : goal.returns-clause-told
returns-clause-told c =
    let was : QmiState = state_of c.loop-name.connections (side_in c.side.inside) in
    turns_end c.args.control c.args.time was c.expire.new.self c.in_default.ensures.traffic (none_due c.args.time (rows_at c.args.control was) c.in_default.ensures.due)
    ∙ ap (λ (b : ModemSide). expires_space c.args.control c.args.time (state_of c.loop-name.connections b)) c.side.view_is ∙ c.loop-name.invariant.told

pub loop-name-preserved : goal.loop-name-preserved
loop-name-preserved c =
    let was : QmiState = state_of c.loop-name.connections (side_in c.side.inside) in
    record {
      told =
          turn_same c.args.control c.args.time was c.expire.new.self c.in-Some.ensures.traffic c.in-Some.name c.in-Some.asked (due_row c.args.time c.in-Some.name c.in-Some.asked (rows_at c.args.control was) c.in-Some.ensures.due)
          (state_of c.refuse.new.connections c.refuse.new.side) c.refuse.ensures.told
          ∙ ap (λ (b : ModemSide). expires_space c.args.control c.args.time (state_of c.loop-name.connections b)) c.side.view_is ∙ c.loop-name.invariant.told;
      limit = c.refuse.ensures.limit ∙ c.loop-name.invariant.limit;
    }

pub loop-name-smaller : goal.loop-name-smaller
loop-name-smaller c =
    let was : QmiState = state_of c.loop-name.connections (side_in c.side.inside) in
    let later : QmiState = state_of c.refuse.new.connections c.refuse.new.side in
    subst (λ (b : ModemSide). waiting_count (rows_at c.args.control later) < waiting_count (rows_at c.args.control (state_of c.loop-name.connections b))) c.side.view_is
    (turn_less c.args.control c.args.time was c.expire.new.self c.in-Some.ensures.traffic c.in-Some.name c.in-Some.asked (due_row c.args.time c.in-Some.name c.in-Some.asked (rows_at c.args.control was) c.in-Some.ensures.due)
    later c.refuse.ensures.told)
