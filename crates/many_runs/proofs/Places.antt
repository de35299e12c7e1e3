-- The places of several devices, one by one.
use Rattle.std.proofs.Common.{◌≡◌, ℕ, ◌+◌, ◌≤◌, List, [], ◌∷◌, ◌++◌, length, map, take, refl, ap, sym, ◌∙◌, arith, append_assoc, append-nil}
use Rattle.std.proofs.lemmas.List.{map-append, length-append, length-map}
use Rattle.link_io.specs.Target.{Address, address_of}
use Rattle.modem_routes.specs.Routes.{Place, AtOnce, BehindPumps, PumpWords, place_of, words_in}
use Rattle.many_runs.specs.Places.{bridge_at, places_from, places_of, address_in, pumps_if, pumps_in, StandFor, HaveAlso}
use Rattle.many_runs.specs.declared.devices.Devices.{Devices}

places_push : (first : ℕ) (paths : List (List ℕ)) (path bridge : List ℕ) → places_from first (paths ++ path ∷ []) bridge ≡ places_from first paths bridge ++ place_of path (bridge_at bridge (first + length paths)) ∷ []
places_push first [] path bridge = (let same : first ≡ first + 0 = omega arith in ap (λ (n : ℕ). place_of path (bridge_at bridge n) ∷ []) same)
places_push first (other ∷ paths) path bridge =
    let same : (first + 1) + length paths ≡ first + length (other ∷ paths) = omega arith in
    ap (λ (l : List Place). place_of other (bridge_at bridge first) ∷ l) (places_push (first + 1) paths path bridge ∙ ap (λ (n : ℕ). places_from (first + 1) paths bridge ++ place_of path (bridge_at bridge n) ∷ []) same)

pumps_push : (places : List Place) (place : Place) → pumps_in (places ++ place ∷ []) ≡ pumps_in places ++ pumps_if place
pumps_push [] place = append-nil (pumps_if place)
pumps_push (other ∷ places) place = ap (λ (l : List PumpWords). pumps_if other ++ l) (pumps_push places place) ∙ sym (append_assoc (pumps_if other) (pumps_in places) (pumps_if place))

pub stand_for_none : (devices : Devices) → devices.targets.items ≡ [] → devices.pumps.items ≡ [] → StandFor [] devices
stand_for_none devices targets pumps = record { addresses = ap (map _) targets; pumps = ap (map _) pumps }

-- one more device
pub stand_for_next : (paths : List (List ℕ)) (path bridge : List ℕ) (at : ℕ) (old new : Devices) → at ≡ length paths → StandFor (places_of paths bridge) old → HaveAlso (place_of path (bridge_at bridge at)) old new → StandFor (places_of (paths ++ path ∷ []) bridge) new
stand_for_next paths path bridge at old new is stand also =
    let place : Place = place_of path (bridge_at bridge at) in
    let whole : places_of (paths ++ path ∷ []) bridge ≡ places_of paths bridge ++ place ∷ [] = places_push 0 paths path bridge ∙ ap (λ (n : ℕ). places_of paths bridge ++ place_of path (bridge_at bridge n) ∷ []) (let same : 0 + length paths ≡ at = omega (arith, is) in same) in
    record {
      addresses = also.addresses ∙ ap (λ (l : List _). l ++ address_in place ∷ []) stand.addresses ∙ sym (map-append address_in (places_of paths bridge) (place ∷ [])) ∙ sym (ap (map address_in) whole);
      pumps = also.pumps ∙ ap (λ (l : List PumpWords). l ++ pumps_if place) stand.pumps ∙ sym (pumps_push (places_of paths bridge) place) ∙ sym (ap pumps_in whole);
    }

-- ---- how many there are ----

pub as_many_places : (first : ℕ) (paths : List (List ℕ)) (bridge : List ℕ) → length (places_from first paths bridge) ≡ length paths
as_many_places first [] bridge = refl
as_many_places first (path ∷ paths) bridge = omega (arith, as_many_places (first + 1) paths bridge)

pumps_one : (place : Place) → length (pumps_if place) ≤ 1
pumps_one (AtOnce address) = omega arith
pumps_one (BehindPumps address pumps) = omega arith

pub few_pumps : (places : List Place) → length (pumps_in places) ≤ length places
few_pumps [] = omega arith
few_pumps (place ∷ places) = omega (arith, pumps_one place, few_pumps places, length-append (pumps_if place) (pumps_in places))

module _ (paths : List (List ℕ)) (bridge : List ℕ) (devices : Devices) (stand : StandFor (places_of paths bridge) devices) where
  pub as_many_targets : length devices.targets.items ≡ length paths
  as_many_targets = omega (arith, length-map devices.targets.items address_of, ap (λ (l : List Address). length l) stand.addresses, length-map (places_of paths bridge) address_in, as_many_places 0 paths bridge)

  pub few_are_nodes : length devices.pumps.items ≤ length paths
  few_are_nodes = omega (arith, length-map devices.pumps.items words_in, ap (λ (l : List PumpWords). length l) stand.pumps, few_pumps (places_of paths bridge), as_many_places 0 paths bridge)
