-- No more connections are there than may be.
use Rattle.std.proofs.Common.{◌≡◌, ℕ, suc, ◌+◌, ◌<◌, ◌≤◌, Bool, true, false, not, ◌==◌, nat_lt, List, [], ◌∷◌, ◌++◌, length, length-append, refl, ap, arith, Option, Some, None}
use Rattle.std.proofs.lemmas.Bool.Decides.{nat_tests}
use Rattle.std.proofs.lemmas.List.Filters.{length-filter_both}
use Rattle.many_history.specs.Events.{ManyEvent, Joined, Piece, Left, Took, ModemPiece, ModemGone, ModemBack, ModemTook, Now}
use Rattle.many_history.specs.Devices.{Devices, choice_on}
use Rattle.many_history.specs.Many.{Place, Undecided, At, Seat, place_of, placed, without, joined_if, chosen_if, said_by, seated, there, is_there_at, names_in, own_after, seats_before, many}

placed_length : (c : ℕ) (place : Place) (seats : List Seat) → length (placed c place seats) ≡ length seats
unfolding placed
placed_length c place [] = refl
placed_length c place (seat ∷ seats) = by (placed_length c place seats) (seat.conn == c)
  where
    by : length (placed c place seats) ≡ length seats → (b : Bool) → length {A = Seat} (elim b [ true ↦ record { conn = c; place = place } ∷ seats | false ↦ seat ∷ placed c place seats ]) ≡ suc (length seats)
    by rest true = refl
    by rest false = ap (λ (n : ℕ). suc n) rest

without_le : (c : ℕ) (seats : List Seat) → length (without c seats) ≤ length seats
unfolding without
without_le c [] = omega arith
without_le c (seat ∷ seats) = by (without_le c seats) (seat.conn == c)
  where
    by : length (without c seats) ≤ length seats → (b : Bool) → length {A = Seat} (elim b [ true ↦ seats | false ↦ seat ∷ without c seats ]) ≤ suc (length seats)
    by rest true = omega arith
    by rest false = omega (arith, rest)

there_le : (f : Place → Bool) (seats : List Seat) → length (there f seats) ≤ length seats
there_le f seats = omega (arith, length-filter_both (λ (seat : Seat). f seat.place) (λ (seat : Seat). not (f seat.place)) (λ seat. refl) seats)

module _ {Known : Type 0} (s : Devices Known) (names : ℕ → ℕ) (seats : List Seat) (few : length seats ≤ s.limit) where
  abbrev Few : List Seat → Type 0
  Few after = length after ≤ s.limit

  few_joined : (c : ℕ) (b : Bool) → nat_lt (length seats) s.limit ≡ b → Few (joined_if b c seats)
  few_joined c true is =
      let less : length seats < s.limit = grind (arith, nat_tests, is) in
      let more : length (seats ++ record { conn = c; place = Undecided [] } ∷ []) ≡ length seats + 1 = length-append seats _ in
      omega (arith, less, more)
  few_joined c false is = few

  few_chosen : (choice : Option ℕ) (c : ℕ) (stream : List ℕ) → Few (chosen_if choice c stream names seats)
  few_chosen None c stream = omega (arith, placed_length c (Undecided stream) seats, few)
  few_chosen (Some d) c stream = omega (arith, placed_length c (At d (names d + 1)) seats, few)

  few_said : (place : Option Place) (c : ℕ) (piece : List ℕ) → Few (said_by s place c piece names seats)
  few_said None c piece = few
  few_said (Some (Undecided before)) c piece = few_chosen (choice_on s (before ++ piece)) c (before ++ piece)
  few_said (Some (At d name)) c piece = few

  few_seated : (event : ManyEvent) → Few (seated s event names seats)
  few_seated (Joined c) = few_joined c (nat_lt (length seats) s.limit) refl
  few_seated (Piece c bytes) = few_said (place_of c seats) c bytes
  few_seated (Left c) = omega (arith, without_le c seats, few)
  few_seated (Took c count) = few
  few_seated (ModemPiece d bytes) = few
  few_seated (ModemGone d) = few
  few_seated (ModemBack d) = few
  few_seated (ModemTook d count) = few
  few_seated (Now time) = few

pub few_are_there : {Known : Type 0} (s : Devices Known) (events : List ManyEvent) → length (many s events).seats ≤ s.limit
unfolding many
few_are_there s [] = omega arith
few_are_there s (event ∷ events) =
    let m = many s events in
    omega (arith, there_le (is_there_at s (own_after s event m)) (seats_before s event m), few_seated s (names_in m.own) m.seats (few_are_there s events) event)
