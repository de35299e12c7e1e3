use Rattle.std.proofs.Common.{◌≡◌, List, [], refl}
use Rattle.hub_io.specs.Record.{Call}
use Rattle.hub_io.proofs.Record.{since-starts}
use Rattle.proxy_serving.proofs.Ends.{served_so}
use Rattle.proxy_core.specs.Lawful.{proxy_by}
use Rattle.proxy_core.proofs.Meets.{opened_keeps}
use Rattle.proxy_core.proofs.serving.serve_proxy.Goals as goal

pub serve-requires-clause-opened : goal.serve-requires-clause-opened
serve-requires-clause-opened g c = (_, opened_keeps g.P.Protocol.meaning g.P.Client.Renews.fresh g.P.Frame.Framing.size g.met.P.Protocol.lawful (record { time = c.args.settings.now.time; release = c.args.settings.now.release }) c.args.settings.now.device c.in-Ok.core (c.in-Ok.ensures.opened c.args.settings.now.device c.as_str.ensures) (c.in-Ok.ensures.stands c.args.settings.now.device c.as_str.ensures))

pub returns-in-Ok-clause-served : goal.returns-in-Ok-clause-served
returns-in-Ok-clause-served g c =
    let settings = c.args.settings.now in
    let p = proxy_by g.P.Protocol.meaning (g.P.Protocol.meaning.opening (record { time = c.args.settings.now.time; release = c.args.settings.now.release }) settings.device) in
    served_so p settings.until settings.turns _ _ c.serve.result
    (c.serve.ensures.served p (opened_keeps g.P.Protocol.meaning g.P.Client.Renews.fresh g.P.Frame.Framing.size g.met.P.Protocol.lawful (record { time = c.args.settings.now.time; release = c.args.settings.now.release }) settings.device c.in-Ok.core (c.in-Ok.ensures.opened settings.device c.as_str.ensures) (c.in-Ok.ensures.stands settings.device c.as_str.ensures)))

pub returns-in-Err-clause-served : goal.returns-in-Err-clause-served
returns-in-Err-clause-served g c =
    let None : List Call → Type 0 = λ calls. calls ≡ [] in
    since-starts _ None refl
