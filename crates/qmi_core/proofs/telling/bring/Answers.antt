use Rattle.std.proofs.Common.{ap, ◌∙◌}
use Rattle.connections.specs.Table.{Table}
use Rattle.qmux_frame.specs.Frame.{size_of}
use Rattle.qmi_state.specs.declared.client.Client.{Client}
use Rattle.qmi_state.specs.Transitions.{hear_client}
use Rattle.proxy_core.proofs.Limit.{brought_limit}
use Rattle.qmi_core.proofs.telling.bring.Goals as goal

pub returns-then-not-bring-clause-limit : goal.returns-then-not-bring-clause-limit
returns-then-not-bring-clause-limit c = ap (λ (t : Table Client). t.limit) c.bring.ensures.table ∙ brought_limit size_of hear_client c.args.name c.args.piece.now c.args.connections.now c.args.side.now

pub returns-else-not-bring-clause-limit : goal.returns-else-not-bring-clause-limit
returns-else-not-bring-clause-limit c = ap (λ (t : Table Client). t.limit) c.bring.ensures.table ∙ brought_limit size_of hear_client c.args.name c.args.piece.now c.args.connections.now c.args.side.now
