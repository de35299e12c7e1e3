-- There are names for those who haven't chosen yet.
use Rattle.std.proofs.Common.{◌≡◌, ℕ, zero, suc, ◌+◌, ◌<◌, ◌≤◌, List, [], ◌∷◌, ◌++◌, length, get_or, set, refl, arith, None}
use Rattle.std.specs.List.{AllByRecursion, remove}
use Rattle.many_history.specs.Many.{Place, Undecided, At, Seat}
use Rattle.many_seats.specs.Seats.{chosen_in, one_undecided, undecided, HaveNames, IsSeat}
use Rattle.many_seats.proofs.Placed.{undecided_append, undecided_remove}

-- where fewer haven't chosen, or the greatest name is greater by as much
pub still_have : (names : List ℕ) (seats after : List Seat) (greatest later : ℕ) → undecided after + greatest ≤ undecided seats + later → HaveNames names seats greatest → HaveNames names after later
still_have [] seats after greatest later less have = tt
still_have (name ∷ names) seats after greatest later less have = (omega (arith, less, have.0), still_have names seats after greatest later less have.1)

pub zeros_have : (names : List ℕ) → AllByRecursion (λ name. name ≡ 0) names → HaveNames names [] 0
zeros_have [] zeros = tt
zeros_have (name ∷ names) zeros = (omega (arith, zeros.0), zeros_have names zeros.1)

-- one at most of each place
pub one_at_most : (place : Place) → one_undecided place ≤ 1
one_at_most (Undecided bytes) = omega arith
one_at_most (At d name) = omega arith

pub is_one : (place : Place) → chosen_in place ≡ None → one_undecided place ≡ 1
is_one (Undecided bytes) none = refl
is_one (At d name) none = absurd (cc)

pub joined_have : (names : List ℕ) (seats : List Seat) (seat : Seat) (greatest conn : ℕ) → greatest < conn → HaveNames names seats greatest → HaveNames names (seats ++ seat ∷ []) conn
joined_have names seats seat greatest conn newer have = still_have names seats (seats ++ seat ∷ []) greatest conn (omega (arith, undecided_append seats (seat ∷ []), one_at_most seat.place, newer)) have

pub no_more_undecided : (seats : List Seat) (i : ℕ) → undecided (remove seats i) ≤ undecided seats
no_more_undecided [] zero = omega arith
no_more_undecided [] (suc i) = omega arith
no_more_undecided (seat ∷ seats) zero = omega arith
no_more_undecided (seat ∷ seats) (suc i) = omega (arith, no_more_undecided seats i)

pub removed_have : (names : List ℕ) (seats : List Seat) (greatest i : ℕ) → HaveNames names seats greatest → HaveNames names (remove seats i) greatest
removed_have names seats greatest i have = still_have names seats (remove seats i) greatest greatest (omega (arith, no_more_undecided seats i)) have

-- the next name at a device where somebody hasn't chosen
pub next_is_within : (names : List ℕ) (seats : List Seat) (greatest d z : ℕ) → d < length names → HaveNames names seats greatest → get_or names d z + undecided seats ≤ greatest
next_is_within [] seats greatest d z within have = absurd (omega (arith, within))
next_is_within (name ∷ names) seats greatest zero z within have = have.0
next_is_within (name ∷ names) seats greatest (suc d) z within have = next_is_within names seats greatest d z (omega (arith, within)) have.1

pub first_of : (seats : List Seat) (i : ℕ) → i < length seats → (seat : Seat) × IsSeat seat seats i
first_of [] i within = absurd (omega (arith, within))
first_of (seat ∷ seats) zero within = (seat, refl)
first_of (seat ∷ seats) (suc i) within = first_of seats i (omega (arith, within))

pub somebody : (seats : List Seat) (i : ℕ) (seat : Seat) → i < length seats → IsSeat seat seats i → chosen_in seat.place ≡ None → 1 ≤ undecided seats
somebody seats i seat within at none = omega (arith, undecided_remove seats i seat within at, is_one seat.place none)

-- one chooses
pub chosen_have : (names : List ℕ) (seats after : List Seat) (greatest d z : ℕ) → d < length names → undecided after + 1 ≡ undecided seats → HaveNames names seats greatest → HaveNames (set names d (get_or names d z + 1)) after greatest
chosen_have [] seats after greatest d z within one have = absurd (omega (arith, within))
chosen_have (name ∷ names) seats after greatest zero z within one have = (omega (arith, one, have.0), still_have names seats after greatest greatest (omega (arith, one)) have.1)
chosen_have (name ∷ names) seats after greatest (suc d) z within one have = (omega (arith, one, have.0), chosen_have names seats after greatest d z (omega (arith, within)) one have.1)
