use Rattle.std.proofs.Common.{◌≡◌, ◌+◌, ◌++◌, ◌∷◌, ℕ, List, [], length, map, take, sym, ap, ap₂, ◌∙◌, subst, arith}
use Rattle.std.proofs.lemmas.List.{length-map, length-take, map_push, take_more}
use Rattle.std.specs.Str.{encode_utf8_all}
use Rattle.modem_routes.specs.Routes.{Place, place_in, place_of}
use Rattle.many_runs.specs.Places.{bridge_at, places_of, StandFor, HaveAlso}
use Rattle.many_runs.proofs.Places.{stand_for_next}
use Rattle.many_runs.proofs.devices.Devices.at.Goals as goal

pub loop-device-preserved : goal.loop-device-preserved
loop-device-preserved c =
    let paths : List (List ℕ) = c.args.paths.now in
    let i = c.loop-device.device in
    let path : List ℕ = c.index-paths-device.result in
    let bridge = c.args.bridge.now in
    let before : List (List ℕ) = map encode_utf8_all (take i paths) in
    let next : map encode_utf8_all (take (i + 1) paths) ≡ before ++ encode_utf8_all path ∷ [] =
    ap (map encode_utf8_all) (take_more paths i path c.loop-device-test.true ∙ ap (λ (p : List ℕ). take i paths ++ p ∷ []) (sym c.index-paths-device.is)) ∙ map_push encode_utf8_all (take i paths) path
    in
    let at : i ≡ length before = omega (arith, c.loop-device-test.true, length-map (take i paths) encode_utf8_all, length-take i paths) in
    let place : place_in c.in_ok-at.field-0 ≡ place_of (encode_utf8_all path) (bridge_at bridge i) =
    c.in_ok-at.ensures ∙ ap₂ place_of (c.as_str.ensures ∙ ap encode_utf8_all c.value-path.ensures.same) (c.deref.ensures ∙ c.in_ok-bridge.ensures)
    in
    let also : HaveAlso (place_of (encode_utf8_all path) (bridge_at bridge i)) c.loop-device.devices c.add.new.self = subst (λ (p : Place). HaveAlso p c.loop-device.devices c.add.new.self) place c.in_ok-add.ensures in
    subst (λ (l : List (List ℕ)). StandFor (places_of l bridge) c.add.new.self) (sym next) (stand_for_next before (encode_utf8_all path) bridge i c.loop-device.devices c.add.new.self at c.loop-device.invariant also)
