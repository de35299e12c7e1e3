-- Whom a proxy of several devices drops. Lists of events have the newest first.
use Rattle.std.specs.Prelude.{◌≡◌, ℕ, ◌<◌, ◌==◌, true, false, List, [], ◌++◌, length, Some}
use Rattle.kit_bytes.specs.Sorted.{IsInOrder}
use Rattle.framing.specs.Framing.{IsKept, is_invalid}
use Rattle.proxy_history.specs.Connections.{present, dropped, contains}
use Rattle.proxy_history.specs.History.{history}
use Rattle.proxy_history.specs.Adding.{IsOrderly}
use Rattle.proxy_history.specs.Orderly.{Anything}
use Rattle.many_history.specs.Events.{ManyEvent}
use Rattle.many_history.specs.Devices.{Devices, HasDevices}
use Rattle.many_history.specs.Many.{Undecided, At, Seat, place_of, many, own}
use Rattle.many_history.specs.Coming.{AreSound}

-- a client that chooses a device finds the same there as before it chose
pub record TakesInWhoChooses {Known : Type 0} (s : Devices Known) : Type 0 where
  -- each choice is of a device that there is
  pub devices : HasDevices s
  -- its stream is cut in the same way, and what was bad stays so; one that said nothing said nothing bad
  pub size : (d : ℕ) → (s.protocol d).size ≡ s.size
  pub kept : (front more : List ℕ) → IsKept (s.size front) (s.size (front ++ more))
  pub begins : is_invalid (s.size []) ≡ false
  -- there is room for it
  pub room : (events : List ManyEvent) (c : ℕ) (bytes : List ℕ) (d : ℕ) → AreSound s events → d < s.count → place_of c (many s events).seats ≡ Some (Undecided bytes)
      → length (present (history (s.protocol d) (own s d events))) < (s.protocol d).limits.connections

-- whom the last event ended that had chosen, its device's proxy dropped by it
abbrev pub DroppedByTheirDevice : Type 0 → Type 0
DroppedByTheirDevice Known = (s : Devices Known) → ((d : ℕ) → IsOrderly (s.protocol d) Anything) → TakesInWhoChooses s → (events : List ManyEvent) (c d name : ℕ)
    → AreSound s events → place_of c (many s events).dropped ≡ Some (At d name) → contains name (dropped (history (s.protocol d) (own s d events))) ≡ true

-- no two are of one connection
abbrev pub AreApart : List Seat → Type 0
AreApart seats = IsInOrder (λ one other. (one.conn == other.conn) ≡ false) seats

-- no connection is dropped twice by an event
abbrev pub EachIsDroppedOnce : Type 0 → Type 0
EachIsDroppedOnce Known = (s : Devices Known) (events : List ManyEvent) → AreSound s events → AreApart (many s events).dropped
