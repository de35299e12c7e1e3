-- Whoever is there is at a device that there is, or has chosen none.
use Rattle.std.proofs.Common.{◌≡◌, ℕ, ◌+◌, ◌<◌, Bool, true, false, cond, ◌==◌, nat_lt, List, [], ◌∷◌, ◌++◌, length, subst, Option, Some, None}
use Rattle.std.specs.List.{AllByRecursion}
use Rattle.many_history.specs.Events.{ManyEvent, Joined, Piece, Left, Took, ModemPiece, ModemGone, ModemBack, ModemTook, Now}
use Rattle.many_history.specs.Devices.{Devices, HasDevices, choice_of_cut, choice_on}
use Rattle.many_history.specs.Many.{Place, Undecided, At, Seat, place_of, placed, without, joined_if, chosen_if, said_by, seated, there, is_there_at, names_in, own_after, seats_before, many}
use Rattle.many_history.specs.Seated.{IsOfDevice}
use Rattle.framing.specs.Cutting.{cut}
use Rattle.proxy_history.specs.Streams.{is_invalid}

-- ---- whatever holds of all places ----

module _ (P : Place → Type 0) where
  abbrev pub Hold : List Seat → Type 0
  Hold seats = AllByRecursion (λ seat. P seat.place) seats

  hold_placed : (c : ℕ) (place : Place) (seats : List Seat) → P place → Hold seats → Hold (placed c place seats)
  unfolding placed
  hold_placed c place [] is all = tt
  hold_placed c place (seat ∷ seats) is all = by (hold_placed c place seats is all.1) (seat.conn == c)
    where
      by : Hold (placed c place seats) → (b : Bool) → Hold (elim b [ true ↦ record { conn = c; place = place } ∷ seats | false ↦ seat ∷ placed c place seats ])
      by rest true = (is, all.1)
      by rest false = (all.0, rest)

  hold_without : (c : ℕ) (seats : List Seat) → Hold seats → Hold (without c seats)
  unfolding without
  hold_without c [] all = tt
  hold_without c (seat ∷ seats) all = by (hold_without c seats all.1) (seat.conn == c)
    where
      by : Hold (without c seats) → (b : Bool) → Hold (elim b [ true ↦ seats | false ↦ seat ∷ without c seats ])
      by rest true = all.1
      by rest false = (all.0, rest)

  hold_append : (seats more : List Seat) → Hold seats → Hold more → Hold (seats ++ more)
  hold_append [] more all too = too
  hold_append (seat ∷ seats) more all too = (all.0, hold_append seats more all.1 too)

  hold_there : (f : Place → Bool) (seats : List Seat) → Hold seats → Hold (there f seats)
  hold_there f [] all = tt
  hold_there f (seat ∷ seats) all = by (hold_there f seats all.1) (f seat.place)
    where
      by : Hold (there f seats) → (b : Bool) → Hold (cond b (seat ∷ there f seats) (there f seats))
      by rest true = (all.0, rest)
      by rest false = rest

  pub placed_of : (c : ℕ) (seats : List Seat) (place : Place) → Hold seats → place_of c seats ≡ Some place → P place
  unfolding place_of
  placed_of c [] place all at = absurd (cc)
  placed_of c (seat ∷ seats) place all at = by (placed_of c seats place all.1) (seat.conn == c) at
    where
      by : (place_of c seats ≡ Some place → P place) → (b : Bool) → (elim b [ true ↦ Some seat.place | false ↦ place_of c seats ]) ≡ Some place → P place
      by rest true is = (let same : seat.place ≡ place = cc in subst P same all.0)
      by rest false is = rest is

-- ---- devices that there are ----

module _ {Known : Type 0} (s : Devices Known) (H : HasDevices s) where
  abbrev pub IsOf : Option ℕ → Type 0
  IsOf None = Unit {0}
  IsOf (Some d) = d < s.count

  cut_is_of : (messages : List (List ℕ)) (rest : List ℕ) → IsOf (choice_of_cut s messages rest)
  cut_is_of [] rest = by (is_invalid (s.size rest))
    where
      by : (b : Bool) → IsOf (cond b (Some 0) None)
      by true = H.some
      by false = tt
  cut_is_of (m ∷ messages) rest = H.choice m

  pub choice_is_of : (stream : List ℕ) → IsOf (choice_on s stream)
  choice_is_of stream = cut_is_of (cut s.size stream).messages (cut s.size stream).rest

  abbrev pub AreOf : List Seat → Type 0
  AreOf seats = Hold (IsOfDevice s.count) seats

  module _ (names : ℕ → ℕ) where
    chosen_of : (choice : Option ℕ) (c : ℕ) (stream : List ℕ) (seats : List Seat) → IsOf choice → AreOf seats → AreOf (chosen_if choice c stream names seats)
    chosen_of None c stream seats is all = hold_placed (IsOfDevice s.count) c (Undecided stream) seats tt all
    chosen_of (Some d) c stream seats is all = hold_placed (IsOfDevice s.count) c (At d (names d + 1)) seats is all

    said_of : (place : Option Place) (c : ℕ) (piece : List ℕ) (seats : List Seat) → AreOf seats → AreOf (said_by s place c piece names seats)
    said_of None c piece seats all = all
    said_of (Some (Undecided before)) c piece seats all = chosen_of (choice_on s (before ++ piece)) c (before ++ piece) seats (choice_is_of (before ++ piece)) all
    said_of (Some (At d name)) c piece seats all = all

    joined_of : (b : Bool) (c : ℕ) (seats : List Seat) → AreOf seats → AreOf (joined_if b c seats)
    joined_of true c seats all = hold_append (IsOfDevice s.count) seats _ all (tt, tt)
    joined_of false c seats all = all

    -- behind an event too
    pub seated_of : (event : ManyEvent) (seats : List Seat) → AreOf seats → AreOf (seated s event names seats)
    seated_of (Joined c) seats all = joined_of (nat_lt (length seats) s.limit) c seats all
    seated_of (Piece c bytes) seats all = said_of (place_of c seats) c bytes seats all
    seated_of (Left c) seats all = hold_without (IsOfDevice s.count) c seats all
    seated_of (Took c count) seats all = all
    seated_of (ModemPiece d bytes) seats all = all
    seated_of (ModemGone d) seats all = all
    seated_of (ModemBack d) seats all = all
    seated_of (ModemTook d count) seats all = all
    seated_of (Now time) seats all = all

pub seats_are_of_devices : {Known : Type 0} (s : Devices Known) → HasDevices s → (events : List ManyEvent) → AllByRecursion (λ seat. IsOfDevice s.count seat.place) (many s events).seats
unfolding many
seats_are_of_devices s H [] = tt
seats_are_of_devices s H (event ∷ events) =
    let m = many s events in
    hold_there (IsOfDevice s.count) (is_there_at s (own_after s event m)) (seats_before s event m) (seated_of s H (names_in m.own) event m.seats (seats_are_of_devices s H events))
