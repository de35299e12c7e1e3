use Rattle.std.proofs.Common.{◌≡◌, subst, ap, ap₂, ◌∙◌}
use Rattle.std.specs.Str.{encode_utf8_all}
use Rattle.modem_routes.specs.Routes.{Place, place_of, place_in}
use Rattle.program.specs.Serving.{ServesProxy, asked_with}
use Rattle.program.proofs.proxy.serve.Goals as goal

-- the device of the settings was served
pub returns-in-Ok-clause-serves : goal.returns-in-Ok-clause-serves
returns-in-Ok-clause-serves g c =
    let Served : Place → Type 0 =
    λ place. ServesProxy c.args.task.now.kind (asked_with c.args.task.now.socket.now c.args.task.now.settings.now) place (g.H.Hub.calls c.args.hub.now) (g.P.Spawner.calls c.args.spawner.now) c.serve_device.result (g.H.Hub.calls c.serve_device.new.hub) (g.H.Hub.made c.serve_device.new.hub) (g.P.Spawner.calls c.serve_device.new.spawner)
    in
    let bridge : c.as_str-2.result.now ≡ encode_utf8_all c.args.bridge.now = c.as_str-2.ensures ∙ ap encode_utf8_all c.value.ensures.same in
    subst Served (c.in-Ok.ensures ∙ ap₂ place_of c.as_str.ensures bridge) c.serve_device.ensures.serves
