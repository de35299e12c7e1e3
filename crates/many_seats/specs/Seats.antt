-- Who is there at a proxy of several devices, and where.
use Rattle.std.specs.Prelude.{◌≡◌, ℕ, ◌+◌, ◌<◌, ◌≤◌, List, [], ◌∷◌, nat_lt, length, set, get_or, Option, Some, None}
use Rattle.std.specs.List.{AllByRecursion}
use Rattle.kit_bytes.specs.Sorted.{IsInOrder}
use Rattle.qmi_proxy.specs.Limits.{connection_limit}
use Rattle.many_history.specs.Many.{Place, Undecided, At, Seat, joined_if, refused_unless}
use Rattle.many_seats.specs.declared.chosen.Chosen.{Chosen}

pub record Seating : Type 0 where
  -- who is there, in order of joining
  pub seats : List Seat
  -- who was dropped and wasn't asked for yet
  pub dropped : List Seat
  -- the greatest name at each device so far
  pub names : List ℕ
  -- the greatest name of a connection so far
  pub greatest : ℕ

-- ---- places ----

-- the place of one that said these bytes, and that chose this or hasn't chosen yet
abbrev pub place_as : Option Chosen → (said : List ℕ) → Place
place_as None said = Undecided said
place_as (Some chosen) said = At chosen.device chosen.name

abbrev pub chosen_in : Place → Option Chosen
chosen_in (Undecided bytes) = None
chosen_in (At d name) = Some (record { device = d; name = name })

abbrev pub chosen_by : Option Place → Option Chosen
chosen_by None = None
chosen_by (Some place) = chosen_in place

-- what one said that hasn't chosen yet
abbrev pub said_in : Place → List ℕ
said_in (Undecided bytes) = bytes
said_in (At d name) = []

-- one that hasn't chosen yet said less than a message may have, and the device that one chose is there
abbrev pub IsPlaceOf : (count : ℕ) → Place → Type 0
IsPlaceOf count (Undecided bytes) = length bytes < 65536
IsPlaceOf count (At d name) = d < count

-- how many haven't chosen yet
abbrev pub one_undecided : Place → ℕ
one_undecided (Undecided bytes) = 1
one_undecided (At d name) = 0

abbrev pub undecided : List Seat → ℕ
undecided [] = 0
undecided (seat ∷ seats) = one_undecided seat.place + undecided seats

-- there are names for those who haven't
abbrev pub HaveNames : (names : List ℕ) → List Seat → (greatest : ℕ) → Type 0
HaveNames names seats greatest = AllByRecursion (λ name. name + undecided seats ≤ greatest) names

-- names rise in order of joining
abbrev pub AreRising : List Seat → Type 0
AreRising seats = IsInOrder (λ k l. k.conn < l.conn) seats

-- and up to the greatest so far
pub record AreInOrder (seats : List Seat) (greatest : ℕ) : Type 0 where
  pub rising : AreRising seats
  pub known : AllByRecursion (λ seat. seat.conn ≤ greatest) seats

-- the seat of a place in the list
abbrev pub IsSeat : Seat → List Seat → ℕ → Type 0
IsSeat seat seats i = seat ≡ get_or seats i seat

-- the first that was dropped
abbrev pub first_conn : List Seat → Option ℕ
first_conn [] = None
first_conn (seat ∷ seats) = Some seat.conn

-- ---- what each call makes of a seating ----

-- one joins: it is let in, or dropped where as many as may be are there
abbrev pub joins : ℕ → Seating → Seating
joins c x = record {
  seats = joined_if (nat_lt (length x.seats) connection_limit) c x.seats;
  dropped = refused_unless (nat_lt (length x.seats) connection_limit) c;
  names = x.names;
  greatest = c;
}

-- the connection of this place has another one
abbrev pub moves : ℕ → ℕ → Place → Seating → Seating
moves i c place x = record x { seats = set x.seats i (record { conn = c; place = place }) }

-- the next name at a device
abbrev pub next_name : ℕ → Seating → ℕ
next_name d x = get_or x.names d 0 + 1

-- it chooses a device
abbrev pub chooses_at : ℕ → ℕ → ℕ → Seating → Seating
chooses_at i c d x = record (moves i c (At d (next_name d x)) x) { names = set x.names d (next_name d x) }
