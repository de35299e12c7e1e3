use Rattle.std.proofs.Common.{subst}
use Rattle.outbox.specs.Fronts.{IsFrontOf}
use Rattle.proxy_state.specs.Stands.{waiting_for}
use Rattle.proxy_state.proofs.Waiting.{waiting_is}
use Rattle.proxy_core.proofs.proxy.Core.queued.Goals as goal

pub returns : goal.returns
returns g c =
    let d = g.P.Protocol.meaning in
    let queue : IsFrontOf c.queued.result.now (waiting_for c.args.conn c.args.self.now) = subst (λ v. IsFrontOf c.queued.result.now (waiting_for c.args.conn v)) c.self.view_is c.queued.ensures in
    record { queue = queue; text = λ s events S owed. subst (IsFrontOf c.queued.result.now) (waiting_is (d.protocol s) (d.kept s) events c.args.self.now S c.args.conn owed) queue }
