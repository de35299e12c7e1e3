use Rattle.std.proofs.Common.{◌≡◌, ◌≤◌, ℕ, List, [], length, map, refl, ap, sym, ◌∙◌, arith}
use Rattle.std.proofs.lemmas.List.{length-map}
use Rattle.std.specs.Str.{encode_utf8_all}
use Rattle.hub_io.proofs.Record.{since-starts}
use Rattle.many_io.specs.Record.{ManyCall}
use Rattle.many_serving.specs.Proxy.{ManyProxy}
use Rattle.many_served.specs.Face.{many_proxy}
use Rattle.many_served.proofs.Ends.{served_so}
use Rattle.many_served.proofs.serving.serve_many.Goals as goal

pub serve_devices-requires-clause-opened : goal.serve_devices-requires-clause-opened
serve_devices-requires-clause-opened g c = (_, c.in-Ok.ensures)

pub serve_devices-requires-clause-hub : goal.serve_devices-requires-clause-hub
serve_devices-requires-clause-hub g c =
    let kept = c.in-Ok.ensures in
    omega (arith, c.requires.hub, kept.stands.count, ap (λ (p : ManyProxy). p.devices) kept.same, length-map c.args.settings.now.devices.now encode_utf8_all)

pub serve_devices-requires-clause-greatest : goal.serve_devices-requires-clause-greatest
serve_devices-requires-clause-greatest g c = omega (arith, c.in-Ok.ensures.stands.greatest)

pub returns-in-Ok-clause-served : goal.returns-in-Ok-clause-served
returns-in-Ok-clause-served g c =
    let settings = c.args.settings.now in
    let p = many_proxy (map encode_utf8_all settings.devices.now) settings.time settings.release in
    served_so p settings.until settings.turns _ _ c.serve_devices.result (c.serve_devices.ensures.served p c.in-Ok.ensures)

pub returns-in-Err-clause-served : goal.returns-in-Err-clause-served
returns-in-Err-clause-served g c =
    let None : List ManyCall → Type 0 = λ calls. calls ≡ [] in
    since-starts _ None refl
