use Rattle.std.proofs.Common.{sym, ◌∙◌}
use Rattle.sim_tunnel.proofs.Cutting.{ragged-begins, ragged-none, unwraps, whole-begins}
use Rattle.sim_tunnel.proofs.answering.first_length.Goals as goal

pub returns-in-Ok : goal.returns-in-Ok
returns-in-Ok c = whole-begins c.args.messages.now (unwraps c.args.messages.now (sym c.unwrap.ensures ∙ c.in-Ok.is))

pub returns-then-place-eq0 : goal.returns-then-place-eq0
returns-then-place-eq0 c = ragged-none c.args.messages.now (sym c.unwrap.ensures ∙ c.in-Err.is) c.if-place-eq0.true

pub returns-else-place-eq0 : goal.returns-else-place-eq0
returns-else-place-eq0 c = ragged-begins c.args.messages.now (sym c.unwrap.ensures ∙ c.in-Err.is) c.if-place-eq0.false
