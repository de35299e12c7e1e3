use Rattle.std.proofs.Common.{sym, ◌∙◌}
use Rattle.sim_mbim.proofs.Outcomes.{command-heard}
use Rattle.sim_mbim.proofs.modem.Modem.hear.Goals as goal

pub returns : goal.returns
returns c =
    command-heard c.args.number c.args.body.now c.buffer_in.result.now c.args.self.now c.in-Some.head c.is_open.result _ c.in_ok-reply_text.field-0 (sym c.read.ensures ∙ c.in-Some.is) c.is_open.ensures c.if-not-is_open.false
    c.buffer_in.ensures c.in_ok-reply.ensures c.in_ok-reply_text.ensures
