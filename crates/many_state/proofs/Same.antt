-- What is read off the cores is what the events say.
use Rattle.std.proofs.Common.{◌≡◌, ℕ, zero, suc, ◌+◌, ◌<◌, Bool, true, false, cond, not, List, [], ◌∷◌, ◌++◌, length, slice_get, refl, ap, sym, ◌∙◌, arith, Option, Some, None, is_some}
use Rattle.std.specs.Option.{option_map}
use Rattle.many_history.specs.Events.{ManyEvent, Joined, Piece, Left, Took, ModemPiece, ModemGone, ModemBack, ModemTook, Now}
use Rattle.many_history.specs.Devices.{Devices, HasDevices, choice_on}
use Rattle.many_history.proofs.Places.{Hold, IsOf, choice_is_of}
use Rattle.many_state.specs.Core.{each_from}
use Rattle.many_history.specs.Many.{Place, Undecided, At, Seat, place_of, only_at, arrival, on_choice, on_piece, parts, chosen_if, said_by, seated, placed, there, ended}

-- ---- the greatest names ----

module _ {Known : Type 0} (s : Devices Known) (H : HasDevices s) (names others : ℕ → ℕ) (same : (d : ℕ) → d < s.count → names d ≡ others d) where
  choice_same : (choice : Option ℕ) (before piece : List ℕ) (e : ℕ) → IsOf s H choice → on_choice choice before piece names e ≡ on_choice choice before piece others e
  choice_same None before piece e is = refl
  choice_same (Some d) before piece e is = ap (λ (n : ℕ). only_at d (arrival (n + 1) before piece) e) (same d is)

  piece_same : (place : Option Place) (piece : List ℕ) (e : ℕ) → on_piece s place piece names e ≡ on_piece s place piece others e
  piece_same None piece e = refl
  piece_same (Some (Undecided before)) piece e = choice_same (choice_on s (before ++ piece)) before piece e (choice_is_of s H (before ++ piece))
  piece_same (Some (At d name)) piece e = refl

  pub parts_same : (event : ManyEvent) (seats : List Seat) (e : ℕ) → parts s event seats names e ≡ parts s event seats others e
  parts_same (Piece c bytes) seats e = piece_same (place_of c seats) bytes e
  parts_same (Joined c) seats e = refl
  parts_same (Left c) seats e = refl
  parts_same (Took c count) seats e = refl
  parts_same (ModemPiece d bytes) seats e = refl
  parts_same (ModemGone d) seats e = refl
  parts_same (ModemBack d) seats e = refl
  parts_same (ModemTook d count) seats e = refl
  parts_same (Now time) seats e = refl

  chosen_same : (choice : Option ℕ) (c : ℕ) (stream : List ℕ) (seats : List Seat) → IsOf s H choice → chosen_if choice c stream names seats ≡ chosen_if choice c stream others seats
  chosen_same None c stream seats is = refl
  chosen_same (Some d) c stream seats is = ap (λ (n : ℕ). placed c (At d (n + 1)) seats) (same d is)

  said_same : (place : Option Place) (c : ℕ) (piece : List ℕ) (seats : List Seat) → said_by s place c piece names seats ≡ said_by s place c piece others seats
  said_same None c piece seats = refl
  said_same (Some (Undecided before)) c piece seats = chosen_same (choice_on s (before ++ piece)) c (before ++ piece) seats (choice_is_of s H (before ++ piece))
  said_same (Some (At d name)) c piece seats = refl

  pub seated_same : (event : ManyEvent) (seats : List Seat) → seated s event names seats ≡ seated s event others seats
  seated_same (Piece c bytes) seats = said_same (place_of c seats) c bytes seats
  seated_same (Joined c) seats = refl
  seated_same (Left c) seats = refl
  seated_same (Took c count) seats = refl
  seated_same (ModemPiece d bytes) seats = refl
  seated_same (ModemGone d) seats = refl
  seated_same (ModemBack d) seats = refl
  seated_same (ModemTook d count) seats = refl
  seated_same (Now time) seats = refl

-- ---- who is there ----

module _ (P : Place → Type 0) (f g : Place → Bool) (same : (place : Place) → P place → f place ≡ g place) where
  pub there_same : (seats : List Seat) → Hold P seats → there f seats ≡ there g seats
  there_same [] all = refl
  there_same (seat ∷ seats) all =
      ap (λ (b : Bool). cond b (seat ∷ there f seats) (there f seats)) (same seat.place all.0) ∙ ap (λ (l : List Seat). cond (g seat.place) (seat ∷ l) l) (there_same seats all.1)

  pub ended_same : (seats : List Seat) → Hold P seats → ended f seats ≡ ended g seats
  ended_same [] all = refl
  ended_same (seat ∷ seats) all =
      ap (λ (b : Bool). cond (not b) (seat ∷ ended f seats) (ended f seats)) (same seat.place all.0) ∙ ap (λ (l : List Seat). cond (not (g seat.place)) (seat ∷ l) l) (ended_same seats all.1)

pub some_if : {X : Type 0} (b : Bool) (x : X) → is_some (cond b (Some x) None) ≡ b
some_if true x = refl
some_if false x = refl

-- ---- one of a list ----

module _ {X : Type 0} where
  pub got : (xs : List X) (i : ℕ) → i < length xs → (x : X) × (slice_get xs i ≡ Some x)
  got [] i within = absurd (omega (arith, within))
  got (x ∷ xs) zero within = (x, refl)
  got (x ∷ xs) (suc i) within = got xs i (omega (arith, within))

  pub within : (xs : List X) (i : ℕ) (x : X) → slice_get xs i ≡ Some x → i < length xs
  within [] i x is = absurd (cc)
  within (y ∷ xs) zero x is = omega arith
  within (y ∷ xs) (suc i) x is = omega (arith, within xs i x is)

  module _ (change : ℕ → X → X) where
    each_length : (i : ℕ) (xs : List X) → length (each_from change i xs) ≡ length xs
    unfolding each_from
    each_length i [] = refl
    each_length i (x ∷ xs) = ap (λ (n : ℕ). suc n) (each_length (suc i) xs)

    pub each_has_as_many : (xs : List X) → length (each_from change 0 xs) ≡ length xs
    each_has_as_many xs = each_length 0 xs

    changed_from : (i : ℕ) (xs : List X) (j : ℕ) → slice_get (each_from change i xs) j ≡ option_map (change (i + j)) (slice_get xs j)
    unfolding each_from
    changed_from i [] j = refl
    changed_from i (x ∷ xs) zero = ap (λ (n : ℕ). Some (change n x)) (let same : i ≡ i + 0 = omega arith in same)
    changed_from i (x ∷ xs) (suc j) = changed_from (suc i) xs j ∙ ap (λ (n : ℕ). option_map (change n) (slice_get xs j)) (let same : suc i + j ≡ i + suc j = omega arith in same)

    -- each was changed by its place
    pub changed_at : (xs : List X) (j : ℕ) → slice_get (each_from change 0 xs) j ≡ option_map (change j) (slice_get xs j)
    changed_at xs j = changed_from 0 xs j ∙ ap (λ (n : ℕ). option_map (change n) (slice_get xs j)) (let same : 0 + j ≡ j = omega arith in same)

    pub was : (xs : List X) (j : ℕ) (y : X) → slice_get (each_from change 0 xs) j ≡ Some y → (x : X) × (slice_get xs j ≡ Some x) × (y ≡ change j x)
    was xs j y is = by (slice_get xs j) refl (sym (changed_at xs j) ∙ is)
      where
        by : (o : Option X) → slice_get xs j ≡ o → option_map (change j) o ≡ Some y → (x : X) × (slice_get xs j ≡ Some x) × (y ≡ change j x)
        by None at is = absurd (cc)
        by (Some x) at is = (x, at, (let same : change j x ≡ y = cc in sym same))
