-- What waits for a connection that is there, or was dropped and isn't asked for yet, is what its text says.
use Rattle.std.proofs.Common.{◌≡◌, ℕ, ◌<◌, Bool, true, false, ◌||◌, List, [], ◌∷◌, ◌++◌, length, map, slice_get, refl, ap, sym, ◌∙◌, subst, arith, Option, Some, None, is_some}
use Rattle.qmux_frame.specs.Framing.{size_of-kept}
use Rattle.connections.specs.Table.{Dropped, connection_in}
use Rattle.proxy_history.specs.Connections.{contains, dropped}
use Rattle.proxy_history.specs.Facts.{Fact, Request}
use Rattle.proxy_history.specs.Rendering.{Rendering}
use Rattle.proxy_history.specs.History.{history}
use Rattle.proxy_state.specs.Stands.{is_owed}
use Rattle.proxy_state.proofs.Waiting.{waiting_is, all_named}
use Rattle.qmi_proxy.specs.History.{qmi_protocol}
use Rattle.qmi_proxy.proofs.Walk.{Asks, orderly}
use Rattle.qmi_state.specs.Core.{QmiCore, kept_of}
use Rattle.many_history.specs.Events.{ManyEvent}
use Rattle.many_history.specs.Many.{Place, Undecided, At, Seat, place_of, many, own}
use Rattle.many_history.specs.Queues.{text_at}
use Rattle.many_history.specs.Coming.{AreSound}
use Rattle.many_history.proofs.Once.{dropped_bytes}
use Rattle.many_state.specs.Core.{waiting_at, waiting_under}
use Rattle.many_state.proofs.Same.{got}
use Rattle.qmi_many.specs.Devices.{setup_at, qmi_devices}
use Rattle.qmi_many_state.specs.Core.{QmiMany, nobody, KeepsStanding}
use Rattle.qmi_many_state.specs.Core as state
use Rattle.qmi_many_state.proofs.Cores.{keeps_standing}
use Rattle.many_dropped.specs.Law.{TakesInWhoChooses, AreApart}
use Rattle.many_dropped.proofs.Dropping.{dropped_there, dropped_of}
use Rattle.many_dropped.proofs.Apart.{dropped_apart, place_behind}
use Rattle.many_seats.proofs.Placed.{behind}
use Rattle.many_core.specs.Core.{ManyCore, Stands, devices_of, waiting_for, text_for}

module _ (paths : List (List ℕ)) (time : ℕ) (release : Option ℕ) (some : 0 < length paths) where
  K : KeepsStanding paths time release
  K = keeps_standing paths time release some

  -- a core can stand for all that may come
  stood : (events : List ManyEvent) → AreSound (qmi_devices paths time release) events → (x : QmiMany) × state.Stands paths time release events x
  stood [] sound = (nobody paths time release, K.opened)
  stood (event ∷ events) sound = (let before = stood events sound.1 in (state.step paths time release event before.0, (K.steps event events before.0 sound.0 before.1).stands))

  pub takes_in : TakesInWhoChooses (qmi_devices paths time release)
  takes_in = record {
    devices = K.devices;
    size = λ d. refl;
    kept = size_of-kept;
    begins = refl;
    room = λ events c bytes d sound of at. let x = stood events sound in K.room events x.0 c bytes d x.1 of (ap (place_of c) (x.1).seats ∙ at);
  }

  each_asks : ℕ → Request → List Fact → Type 0
  each_asks d = Asks (setup_at paths time release d)

  pub was_dropped : (events : List ManyEvent) (c d name : ℕ) → AreSound (qmi_devices paths time release) events → place_of c (many (qmi_devices paths time release) events).dropped ≡ Some (At d name)
      → contains name (dropped (history (qmi_protocol (setup_at paths time release d)) (own (qmi_devices paths time release) d events))) ≡ true
  unfolding each_asks
  was_dropped events c d name sound at = dropped_there (qmi_devices paths time release) each_asks (λ e. orderly (setup_at paths time release e)) takes_in events c d name sound at

  pub of_device : (events : List ManyEvent) (c d name : ℕ) → place_of c (many (qmi_devices paths time release) events).dropped ≡ Some (At d name) → d < length paths
  unfolding each_asks
  of_device events c d name at = dropped_of (qmi_devices paths time release) each_asks (λ e. orderly (setup_at paths time release e)) takes_in events c d name at

module _ (x : ManyCore) (some : 0 < length x.paths) (events : List ManyEvent) (S : Stands events x) where
  owed_either : (a b : Bool) → b ≡ true → (a || b) ≡ true
  owed_either true b is = refl
  owed_either false b is = is

  under_core : (c d name : ℕ) → place_of c (many (devices_of x) events).dropped ≡ Some (At d name) → waiting_at x.core.cores (Some (At d name)) ≡ (text_at (devices_of x) (many (devices_of x) events).own (Some (At d name))).waiting
  under_core c d name at =
      let setup = setup_at x.paths x.limits.time x.limits.release d in
      let core = got x.core.cores d (omega (arith, of_device x.paths x.limits.time x.limits.release some events c d name at, S.count)) in
      let stands = S.cores d core.0 core.1 in
      let named : contains name (map (λ (l : Dropped). l.name) (core.0).state.table.dropped) ≡ true =
      ap (contains name) (all_named (qmi_protocol setup) (kept_of setup) (own (devices_of x) d events) core.0 stands) ∙ was_dropped x.paths x.limits.time x.limits.release some events c d name S.sound at
      in
      let owed : is_owed name core.0 ≡ true = owed_either (is_some (connection_in name (core.0).state.table.present)) (contains name (map (λ (l : Dropped). l.name) (core.0).state.table.dropped)) named in
      ap (λ (o : Option QmiCore). waiting_under name o) core.1 ∙ waiting_is (qmi_protocol setup) (kept_of setup) (own (devices_of x) d events) core.0 stands.stands name owed

  at_its_place : (c : ℕ) (place : Place) → place_of c (many (devices_of x) events).dropped ≡ Some place → waiting_at x.core.cores (Some place) ≡ (text_at (devices_of x) (many (devices_of x) events).own (Some place)).waiting
  at_its_place c (Undecided bytes) at = refl
  at_its_place c (At d name) at = under_core c d name at

  dropped_waiting : (c : ℕ) (place : Place) → place_of c x.core.dropped ≡ Some place → waiting_at x.core.cores (Some place) ≡ (text_for x c events).waiting
  dropped_waiting c place at =
      let s = devices_of x in
      let full : place_of c (many s events).dropped ≡ Some place =
      ap (place_of c) (sym S.dropped.1) ∙ place_behind c S.dropped.0 x.core.dropped place (subst AreApart (sym S.dropped.1) (dropped_apart s events S.sound)) at
      in
      at_its_place c place full ∙ ap (λ (r : Rendering). r.waiting) (sym (dropped_bytes s c events place S.sound full))

  pub owed_waiting : (c : ℕ) → is_some (place_of c (x.core.seats ++ x.core.dropped)) ≡ true → waiting_for c x ≡ (text_for x c events).waiting
  owed_waiting c owed = by (place_of c x.core.seats) refl (place_of c x.core.dropped) refl
    where
      none : (o : Option Place) → o ≡ None → is_some o ≡ true → ⊥
      none o is some = (let clash : false ≡ true = sym (ap is_some is) ∙ some in cc)

      by : (o : Option Place) → place_of c x.core.seats ≡ o → (p : Option Place) → place_of c x.core.dropped ≡ p → waiting_for c x ≡ (text_for x c events).waiting
      by (Some place) here p rest = (keeps_standing x.paths x.limits.time x.limits.release some).waiting events x.core c place S here
      by None gone (Some place) rest = ap (waiting_at x.core.cores) (behind c x.core.seats x.core.dropped gone ∙ rest) ∙ dropped_waiting c place rest
      by None gone None rest = absurd (none (place_of c (x.core.seats ++ x.core.dropped)) (behind c x.core.seats x.core.dropped gone ∙ rest) owed)
