use Rattle.std.proofs.Common.{◌≡◌, ◌++◌, ap, ◌∙◌}
use Rattle.proxy_state.specs.Stands.{waiting_for}
use Rattle.proxy_state.proofs.Waiting.{waiting_is}
use Rattle.proxy_core.proofs.proxy.Core.parts.Goals as goal

pub returns : goal.returns
returns g c =
    let d = g.P.Protocol.meaning in
    let queue : c.parts.result.0.now ++ c.parts.result.1.now ≡ waiting_for c.args.conn c.args.self.now = c.parts.ensures ∙ ap (waiting_for c.args.conn) c.self.view_is in
    record { queue = queue; text = λ s events S owed. queue ∙ waiting_is (d.protocol s) (d.kept s) events c.args.self.now S c.args.conn owed }
