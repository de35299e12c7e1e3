use Rattle.std.proofs.Common.{◌≡◌, sym, ◌∙◌, ap, arith}
use Rattle.sim_qmi.proofs.ClientIds.{free_from, none_free}
use Rattle.sim_qmi.proofs.state.ModemState.free_id.Goals as goal

pub returns : goal.returns
returns c =
    let last : c.loop-id.id ≡ 255 = omega arith in
    sym (c.loop-id.invariant ∙ ap (free_from c.args.self.now.clients c.args.service) last ∙ none_free c.args.self.now.clients c.args.service)
