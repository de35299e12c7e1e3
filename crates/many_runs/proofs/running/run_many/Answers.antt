use Rattle.std.proofs.Common.{◌≡◌, ◌≤◌, ℕ, List, [], true, length, map, refl, subst, arith}
use Rattle.std.proofs.lemmas.List.{length-map}
use Rattle.std.proofs.lemmas.List.Elements.{All-nil}
use Rattle.std.specs.Str.{encode_utf8_all}
use Rattle.kit_io.proofs.Growth.{Grows-none}
use Rattle.hub_io.proofs.Record.{since-starts}
use Rattle.link_io.specs.Target.{Address}
use Rattle.many_io.specs.Record.{ManyCall}
use Rattle.modem_routes.specs.Routes.{PumpWords}
use Rattle.many_runs.specs.Places.{address_in, places_of, pumps_among}
use Rattle.many_runs.specs.Running.{asked_by, no_memory, ServesPlaces}
use Rattle.many_runs.proofs.Places.{as_many_targets, few_are_nodes}
use Rattle.many_runs.proofs.running.run_many.Goals as goal

pub run_devices-requires-clause-room : goal.run_devices-requires-clause-room
run_devices-requires-clause-room g c =
    let paths = map encode_utf8_all c.args.settings.now.devices.now in
    omega (arith, c.requires.hub, as_many_targets paths c.args.bridge.now c.in-Ok.devices c.in-Ok.ensures, length-map c.args.settings.now.devices.now encode_utf8_all)

pub run_devices-requires-clause-few : goal.run_devices-requires-clause-few
run_devices-requires-clause-few g c =
    let paths = map encode_utf8_all c.args.settings.now.devices.now in
    omega (arith, c.requires.few, few_are_nodes paths c.args.bridge.now c.in-Ok.devices c.in-Ok.ensures, length-map c.args.settings.now.devices.now encode_utf8_all)

-- the devices of the paths were served
pub returns-in-Ok-clause-serves : goal.returns-in-Ok-clause-serves
returns-in-Ok-clause-serves g c =
    let asked = asked_by c.args.settings.now in
    let places = places_of (map encode_utf8_all asked.devices) c.args.bridge.now in
    let Serves : List Address → List PumpWords → Type 0 =
    λ devices pumps. ServesPlaces c.args.socket.now devices pumps asked (g.M.ManyHub.calls c.args.many.now) (g.P.Spawner.calls c.args.spawner.now) c.run_devices.result (g.M.ManyHub.calls c.run_devices.new.many) (g.M.ManyHub.made c.run_devices.new.many) (g.P.Spawner.calls c.run_devices.new.spawner)
    in
    subst (λ (l : List PumpWords). Serves (map address_in places) l) c.in-Ok.ensures.pumps (subst (λ (l : List Address). Serves l (pumps_among c.in-Ok.devices)) c.in-Ok.ensures.addresses c.run_devices.ensures.serves)

-- no memory was there
pub returns-in-Err-clause-serves : goal.returns-in-Err-clause-serves
returns-in-Err-clause-serves g c = record {
  starts = [];
  serves = (let None : List ManyCall → Type 0 = λ calls. calls ≡ [] in no_memory (since-starts (g.M.ManyHub.calls c.args.many.now) None refl) refl refl);
  children = record { tries = []; each = refl; all = refl; grows = Grows-none (g.P.Spawner.calls c.args.spawner.now); left = record { failed = All-nil _; none = λ all. refl } };
}
