-- What holds of a core of several QMI devices between two events.
use Rattle.std.proofs.Common.{◌≡◌, ℕ, ◌<◌, ◌≤◌, Bool, true, false, nat_lt, List, [], length, refl, ap, sym, ◌∙◌, subst, arith, Some, None}
use Rattle.std.specs.List.{AllByRecursion}
use Rattle.std.proofs.lemmas.Bool.Decides.{nat_tests}
use Rattle.kit_bytes.proofs.Lists.{all_push, all_at}
use Rattle.many_history.specs.Many.{Place, Undecided, At, Seat, joined_if}
use Rattle.many_seats.specs.declared.chosen.Chosen.{Chosen}
use Rattle.many_seats.specs.Seats.{chosen_in, said_in, IsPlaceOf, IsSeat}

-- each seat is of a device that there is, or said less than a message
abbrev pub PlacesFit : ℕ → List Seat → Type 0
PlacesFit count seats = AllByRecursion (λ seat. IsPlaceOf count seat.place) seats

pub joined_fit : (count : ℕ) (b : Bool) (conn : ℕ) (seats : List Seat) → PlacesFit count seats → PlacesFit count (joined_if b conn seats)
joined_fit count true conn seats all = all_push (λ (seat : Seat). IsPlaceOf count seat.place) seats (record { conn = conn; place = Undecided [] }) all (omega arith)
joined_fit count false conn seats all = all

pub fits_at : (count : ℕ) (seats : List Seat) (i : ℕ) (seat : Seat) → i < length seats → IsSeat seat seats i → PlacesFit count seats → IsPlaceOf count seat.place
fits_at count seats i seat within at all = subst (λ (s : Seat). IsPlaceOf count s.place) (sym at) (all_at (λ (s : Seat). IsPlaceOf count s.place) seats i seat all within)

-- ---- what a seat's choice tells ----

pub of_chosen : (place : Place) (chosen : Chosen) → chosen_in place ≡ Some chosen → place ≡ At chosen.device chosen.name
of_chosen (Undecided bytes) chosen is = absurd (cc)
of_chosen (At d name) chosen is =
    let k : Chosen = record { device = d; name = name } in
    let same : k ≡ chosen = cc in
    ap (λ (l : Chosen). At l.device l.name) same

pub of_none : (place : Place) → chosen_in place ≡ None → place ≡ Undecided (said_in place)
of_none (Undecided bytes) none = refl
of_none (At d name) none = absurd (cc)

pub device_fits : (count : ℕ) (seats : List Seat) (i : ℕ) (seat : Seat) (chosen : Chosen) → i < length seats → IsSeat seat seats i → PlacesFit count seats → chosen_in seat.place ≡ Some chosen → chosen.device < count
device_fits count seats i seat chosen within at all is = subst (IsPlaceOf count) (of_chosen seat.place chosen is) (fits_at count seats i seat within at all)

-- a count that didn't fall
pub no_fewer : (before after : ℕ) (fell : Bool) → fell ≡ nat_lt after before → fell ≡ false → before ≤ after
no_fewer before after fell is none = (let test : nat_lt after before ≡ false = sym is ∙ none in grind (arith, nat_tests, test))
