use Rattle.std.proofs.Common.{subst}
use Rattle.std.specs.Str.{encode_utf8_all}
use Rattle.modem_routes.specs.Routes.{place_of}
use Rattle.program.specs.Serving.{Asked, ServesProxy}
use Rattle.program.proofs.proxy.proxy_modem.Goals as goal

-- the proxy of the words served
pub returns-in-Ok-clause-serves : goal.returns-in-Ok-clause-serves
returns-in-Ok-clause-serves g c =
    let Served : Asked → Type 0 =
    λ asked. ServesProxy c.args.task.now.kind asked (place_of (encode_utf8_all asked.device) (encode_utf8_all c.args.task.now.bridge)) (g.H.Hub.calls c.args.hub.now) (g.P.Spawner.calls c.args.spawner.now) c.serve.result (g.H.Hub.calls c.serve.new.hub) (g.H.Hub.made c.serve.new.hub) (g.P.Spawner.calls c.serve.new.spawner)
    in
    subst Served c.in-Ok.ensures c.serve.ensures.serves
