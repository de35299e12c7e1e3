-- What a piece makes of the seat of one that hasn't chosen.
use Rattle.std.proofs.Common.{◌≡◌, ℕ, zero, suc, ◌+◌, ◌-◌, ◌<◌, ◌==◌, List, [], ◌∷◌, ◌++◌, length, map, take, set, get_or, position, refl, ap, sym, ◌∙◌, subst, arith, Option, Some, None}
use Rattle.std.proofs.lemmas.List.{length-append, length-map}
use Rattle.hub_io.specs.declared.settings.Limits.{Limits}
use Rattle.qmi_state.specs.Core.{QmiCore}
use Rattle.many_history.specs.Devices.{choice_on}
use Rattle.many_history.specs.Many.{Place, Undecided, Seat}
use Rattle.qmi_many.specs.Devices.{qmi_devices}
use Rattle.many_seats.specs.Seats.{Seating, IsSeat, chosen_in, said_in, moves}
use Rattle.many_seats.proofs.Names.{first_of}
use Rattle.many_core.specs.Core.{ManyCore}
use Rattle.many_core.proofs.Greatest.{greatest_of}
use Rattle.many_core.proofs.Inside.{of_none}
use Rattle.many_core.proofs.Meeting.{value}

set_length : {X : Type 0} (xs : List X) (i : ℕ) (x : X) → length (set xs i x) ≡ length xs
set_length [] i x = refl
set_length (y ∷ xs) zero x = omega arith
set_length (y ∷ xs) (suc i) x = omega (arith, set_length xs i x)

set_there : {X : Type 0} (xs : List X) (i : ℕ) (x : X) → i < length xs → x ≡ get_or (set xs i x) i x
set_there [] i x within = absurd (omega (arith, within))
set_there (y ∷ xs) zero x within = refl
set_there (y ∷ xs) (suc i) x within = set_there xs i x (omega (arith, within))

pub set_twice : {X : Type 0} (xs : List X) (i : ℕ) (x y : X) → set (set xs i x) i y ≡ set xs i y
set_twice [] i x y = refl
set_twice (z ∷ xs) zero x y = refl
set_twice (z ∷ xs) (suc i) x y = ap (λ l. z ∷ l) (set_twice xs i x y)

module _ (old new : Seating) (i c : ℕ) (place : Place) (is : new ≡ moves i c place old) (within : i < length old.seats) where
  abbrev pub moved : Seat
  moved = record { conn = c; place = place }

  pub still_within : i < length new.seats
  still_within = omega (arith, within, ap (λ (t : Seating). length t.seats) is, set_length old.seats i moved)

  pub sits_so : IsSeat moved new.seats i
  sits_so = subst (λ (t : Seating). IsSeat moved t.seats i) (sym is) (set_there old.seats i moved within)

-- one of a place that hasn't chosen says a piece
pub record Heard (old new : Seating) (i : ℕ) (piece : List ℕ) : Type 0 where
  pub seat : Seat
  pub at : IsSeat seat old.seats i
  pub said : new ≡ moves i seat.conn (Undecided (said_in seat.place ++ piece)) old
  -- it sits there as before
  pub still : i < length new.seats
  pub sits : IsSeat (record { conn = seat.conn; place = Undecided (said_in seat.place ++ piece) }) new.seats i

pub hears : (old new : Seating) (i : ℕ) (piece : List ℕ) → i < length old.seats → ((seat : Seat) → IsSeat seat old.seats i → new ≡ moves i seat.conn (Undecided (said_in seat.place ++ piece)) old) → Heard old new i piece
hears old new i piece within say =
    let found = first_of old.seats i within in
    let seat : Seat = found.0 in
    let said = say seat found.1 in
    let place : Place = Undecided (said_in seat.place ++ piece) in
    record { seat = seat; at = found.1; said = said; still = still_within old new i seat.conn place said within; sits = sits_so old new i seat.conn place said within }

-- the same in a core, with what is known of it before
pub record Says (old new : Seating) (i conn : ℕ) (piece : List ℕ) : Type 0 where
  pub heard : Heard old new i piece
  pub hung_up : old.dropped ≡ []
  pub stands : Some i ≡ position (λ (k : Seat). k.conn == conn) old.seats
  pub undecided : heard.seat.place ≡ Undecided (said_in heard.seat.place)

pub says : (paths : List (List ℕ)) (limits : Limits) (cores : List QmiCore) (old new : Seating) (i conn : ℕ) (piece : List ℕ) (x : ManyCore) → value paths limits cores old ≡ x → Some i ≡ position (λ (k : Seat). k.conn == conn) x.core.seats → i < length x.core.seats
    → ((k : Seat) → IsSeat k x.core.seats i → chosen_in k.place ≡ None) → x.core.dropped ≡ [] → ((seat : Seat) → IsSeat seat old.seats i → new ≡ moves i seat.conn (Undecided (said_in seat.place ++ piece)) old) → Says old new i conn piece
says paths limits cores old new i conn piece x view at within none hung_up say =
    let h : Heard old new i piece = hears old new i piece (subst (λ (v : ManyCore). i < length v.core.seats) (sym view) within) say in
    record {
      heard = h;
      hung_up = subst (λ (v : ManyCore). v.core.dropped ≡ []) (sym view) hung_up;
      stands = subst (λ (v : ManyCore). Some i ≡ position (λ (k : Seat). k.conn == conn) v.core.seats) (sym view) at;
      undecided = of_none h.seat.place (subst (λ (v : ManyCore). (k : Seat) → IsSeat k v.core.seats i → chosen_in k.place ≡ None) (sym view) none h.seat h.at);
    }

-- all that it said so far, and what it chooses by that
pub stream_is : (old new : Seating) (i : ℕ) (piece stream : List ℕ) (h : Heard old new i piece) → ((seat : Seat) → IsSeat seat new.seats i → chosen_in seat.place ≡ None → stream ≡ said_in seat.place) → stream ≡ said_in h.seat.place ++ piece
stream_is old new i piece stream h said = said (record { conn = h.seat.conn; place = Undecided (said_in h.seat.place ++ piece) }) h.sits refl

pub chooses : (paths : List (List ℕ)) (limits : Limits) (stream all : List ℕ) (choice : Option ℕ) → stream ≡ all → choice ≡ choice_on (qmi_devices paths limits.time limits.release) stream → choice_on (qmi_devices paths limits.time limits.release) all ≡ choice
chooses paths limits stream all choice same is = ap (λ (l : List ℕ). choice_on (qmi_devices paths limits.time limits.release) l) (sym same) ∙ sym is

-- a device that there is, and the names of all
pub record IsNamed (names : List ℕ) (cores : List QmiCore) (d : ℕ) : Type 0 where
  pub within : d < length cores
  pub greatest : names ≡ map greatest_of cores
  pub listed : d < length names

pub is_named : (names : List ℕ) (cores : List QmiCore) (count d : ℕ) → length cores ≡ count → names ≡ map greatest_of cores → d < count → IsNamed names cores d
is_named names cores count d all greatest there = record {
  within = omega (arith, there, all);
  greatest = greatest;
  listed = omega (arith, there, all, ap (λ (l : List ℕ). length l) greatest, length-map cores greatest_of);
}

-- ---- what it said before ----

take_front : (front more : List ℕ) → take (length front) (front ++ more) ≡ front
take_front [] more = refl
take_front (byte ∷ front) more = ap (λ (l : List ℕ). byte ∷ l) (take_front front more)

pub front_is : (before piece stream : List ℕ) → stream ≡ before ++ piece → take (length stream - length piece) stream ≡ before
front_is before piece stream is =
    let same : length (before ++ piece) - length piece ≡ length before = omega (arith, length-append before piece) in
    ap (λ (l : List ℕ). take (length l - length piece) l) is ∙ ap (λ (n : ℕ). take n (before ++ piece)) same ∙ take_front before piece
