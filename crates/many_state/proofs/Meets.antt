-- What a core of several devices may meet is what may come.
use Rattle.std.proofs.Common.{◌≡◌, ◌↔◌, ℕ, ◌<◌, ◌≤◌, List, length, slice_get, refl, sym, subst, arith, Option, Some, None}
use Rattle.proxy_history.specs.Events.{Event}
use Rattle.proxy_history.specs.Events as one
use Rattle.proxy_history.specs.Coming as one_coming
use Rattle.proxy_history.specs.History.{modem_queue}
use Rattle.proxy_state.specs.State.{Core, Handlers}
use Rattle.proxy_state.specs.Stands.{Kept, CanStep}
use Rattle.proxy_solo.specs.Cores.{hung_up}
use Rattle.many_history.specs.Events.{ManyEvent, Joined, Piece, Left, Took, ModemPiece, ModemGone, ModemBack, ModemTook, Now}
use Rattle.many_history.specs.Devices.{Devices, HasDevices}
use Rattle.many_history.specs.Many.{Place, Undecided, At, Seat, place_of, many}
use Rattle.many_history.specs.Coming.{queued_at, MayCome}
use Rattle.many_history.specs.Seated.{IsOfDevice}
use Rattle.many_history.proofs.Places.{placed_of, seats_are_of_devices}
use Rattle.many_state.specs.Core.{ManyCore, queue_under, queue_at, modem_queue_of, MayMeet, Stands}
use Rattle.many_state.specs.Laws.{IsProxysCore}
use Rattle.many_state.proofs.Same.{got}
use Rattle.proxy_solo.proofs.Cores.{stands_hung_up}

module _ {Known T S : Type 0} (s : Devices Known) (k : ℕ → Kept Known T S) (h : Handlers T S) (H : HasDevices s) (P : IsProxysCore s k h) (events : List ManyEvent) (x : ManyCore T S) (stands : Stands s k events x) where
  abbrev own : ℕ → List Event
  own = (many s events).own

  -- what one device's core can meet, whomever it dropped left aside
  can_is : (d : ℕ) (core : Core T S) → slice_get x.cores d ≡ Some core → (event : Event) → CanStep h event (hung_up core) ↔ one_coming.MayCome (s.protocol d) event (own d)
  can_is d core at event = P.steps d event (own d) (hung_up core) (stands_hung_up (s.protocol d) (k d) (own d) core (stands.cores d core at).stands) refl

  -- ---- a client's taking ----

  abbrev TakingIs : ℕ → Option Place → Type 0
  TakingIs count place = count ≤ length (queue_at h x.cores place) ↔ count ≤ queued_at s own place

  taking_under : (count d name : ℕ) (core : Core T S) → slice_get x.cores d ≡ Some core → TakingIs count (Some (At d name))
  taking_under count d name core at =
      let can = can_is d core at (one.Took name count) in
      let Under : Option (Core T S) → Type 0 = λ o. count ≤ length (queue_under h name o) ↔ count ≤ queued_at s own (Some (At d name)) in
      subst Under (sym at) (λ may. can.0 (record { hung_up = refl; may_come = may }), λ may. (can.1 may).may_come)

  taking_at : (count : ℕ) (place : Place) → IsOfDevice s.count place → TakingIs count (Some place)
  taking_at count (Undecided bytes) of = (λ may. may, λ may. may)
  taking_at count (At d name) of = let core = got x.cores d (omega (arith, of, stands.count)) in taking_under count d name core.0 core.1

  taking_of : (count c : ℕ) (place : Option Place) → place_of c (many s events).seats ≡ place → TakingIs count place
  taking_of count c None at = (λ may. may, λ may. may)
  taking_of count c (Some place) at = taking_at count place (placed_of (IsOfDevice s.count) c (many s events).seats place (seats_are_of_devices s H events) at)

  -- ---- a modem's ----

  modem_taking : (count d : ℕ) (core : Core T S) → slice_get x.cores d ≡ Some core → count ≤ length (modem_queue_of h (slice_get x.cores d)) ↔ count ≤ length (modem_queue (s.protocol d) (own d))
  modem_taking count d core at =
      let can = can_is d core at (one.ModemTook count) in
      let Under : Option (Core T S) → Type 0 = λ o. count ≤ length (modem_queue_of h o) ↔ count ≤ length (modem_queue (s.protocol d) (own d)) in
      subst Under (sym at) (λ may. can.0 (record { hung_up = refl; may_come = may }), λ may. (can.1 may).may_come)

  -- ---- each event ----

  pub meets_what_may_come : (event : ManyEvent) → MayMeet h event x ↔ MayCome s event events
  meets_what_may_come (Joined c) = (λ may. (omega (arith, may, stands.greatest), tt), λ may. omega (arith, may.0, stands.greatest))
  meets_what_may_come (Piece c bytes) = (λ may. (tt, may), λ may. may.1)
  meets_what_may_come (Left c) = (λ may. (tt, tt), λ may. tt)
  meets_what_may_come (Took c count) =
      let taking = taking_of count c (place_of c (many s events).seats) refl in
      let Taking : List Seat → Type 0 = λ l. count ≤ length (queue_at h x.cores (place_of c l)) ↔ count ≤ queued_at s own (place_of c (many s events).seats) in
      let both = subst Taking (sym stands.seats) taking in
      (λ may. (tt, both.0 may), λ may. both.1 may.1)
  meets_what_may_come (ModemPiece d bytes) = (λ may. (tt, (omega (arith, may.0, stands.count), may.1)), λ may. (omega (arith, (may.1).0, stands.count), (may.1).1))
  meets_what_may_come (ModemGone d) = (λ may. (tt, omega (arith, may, stands.count)), λ may. omega (arith, may.1, stands.count))
  meets_what_may_come (ModemBack d) = (λ may. (tt, omega (arith, may, stands.count)), λ may. omega (arith, may.1, stands.count))
  meets_what_may_come (ModemTook d count) = (
    λ may. (let core = got x.cores d may.0 in (tt, (omega (arith, may.0, stands.count), (modem_taking count d core.0 core.1).0 may.1))),
    λ may. (let of : d < length x.cores = omega (arith, (may.1).0, stands.count) in let core = got x.cores d of in (of, (modem_taking count d core.0 core.1).1 (may.1).1)),
  )
  meets_what_may_come (Now time) = (λ may. (tt, tt), λ may. tt)
