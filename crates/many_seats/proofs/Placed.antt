-- The seat of a connection, by its place in the list.
use Rattle.std.proofs.Common.{◌≡◌, ℕ, zero, suc, ◌+◌, ◌<◌, Bool, true, false, cond, find, ◌==◌, List, [], ◌∷◌, ◌++◌, length, get_or, set, refl, ap, sym, ◌∙◌, arith, Option, Some, None}
use Rattle.std.specs.List.{position, remove}
use Rattle.std.proofs.lemmas.Bool.{eqb-true}
use Rattle.std.specs.Option.{option_map}
use Rattle.kit_bytes.proofs.Lists.{find_none}
use Rattle.std.proofs.lemmas.List.Quantifiers.{position-Some}
use Rattle.many_history.specs.Many.{Place, Seat, place_of, placed, without}
use Rattle.many_seats.specs.Seats.{one_undecided, undecided, IsSeat}

module _ (c : ℕ) where
  abbrev pub is_named : Seat → Bool
  is_named seat = seat.conn == c

  -- the first of this name stands at this place
  pub record IsAt (seats : List Seat) (i : ℕ) : Type 0 where
    pub within : i < length seats
    pub named : (d : Seat) → is_named (get_or seats i d) ≡ true
    pub before : (j : ℕ) (d : Seat) → j < i → is_named (get_or seats j d) ≡ false

  is_at : (seats : List Seat) (i : ℕ) → Some i ≡ position is_named seats → (d : Seat) → IsAt seats i
  is_at seats i is d = record {
    within = (position-Some is_named seats i d (sym is)).0;
    named = λ e. (position-Some is_named seats i e (sym is)).1;
    before = λ j e low. (position-Some is_named seats i e (sym is)).2 j low;
  }

  is_behind : (seat : Seat) (seats : List Seat) (i : ℕ) → IsAt (seat ∷ seats) (suc i) → IsAt seats i
  is_behind seat seats i at = record {
    within = omega (arith, at.within);
    named = at.named;
    before = λ j d low. at.before (suc j) d (omega arith);
  }

  placed_set : (place : Place) (seats : List Seat) (i : ℕ) → IsAt seats i → placed c place seats ≡ set seats i (record { conn = c; place = place })
  unfolding placed
  placed_set place [] i at = absurd (omega (arith, at.within))
  placed_set place (seat ∷ seats) zero at = rw (at.named seat, placed) refl
  placed_set place (seat ∷ seats) (suc i) at = rw (at.before 0 seat (omega arith), placed) (ap (λ t. seat ∷ t) (placed_set place seats i (is_behind seat seats i at)))

  without_removed : (seats : List Seat) (i : ℕ) → IsAt seats i → without c seats ≡ remove seats i
  unfolding without
  without_removed [] i at = absurd (omega (arith, at.within))
  without_removed (seat ∷ seats) zero at = rw (at.named seat, without) refl
  without_removed (seat ∷ seats) (suc i) at = rw (at.before 0 seat (omega arith), without) (ap (λ t. seat ∷ t) (without_removed seats i (is_behind seat seats i at)))

  place_at : (seats : List Seat) (i : ℕ) (d : Seat) → IsAt seats i → place_of c seats ≡ Some (get_or seats i d).place
  unfolding place_of
  place_at [] i d at = absurd (omega (arith, at.within))
  place_at (seat ∷ seats) zero d at = rw (at.named seat, place_of) refl
  place_at (seat ∷ seats) (suc i) d at = rw (at.before 0 seat (omega arith), place_of) (place_at seats i d (is_behind seat seats i at))

  module _ (seats : List Seat) (i : ℕ) (is : Some i ≡ position is_named seats) (seat : Seat) (at : IsSeat seat seats i) where
    pub conn_is : seat.conn ≡ c
    conn_is = eqb-true seat.conn c (ap is_named at ∙ (is_at seats i is seat).named seat)

    pub place_is : place_of c seats ≡ Some seat.place
    place_is = place_at seats i seat (is_at seats i is seat) ∙ ap (λ (s : Seat). Some s.place) (sym at)

    pub placed_is : (place : Place) → placed c place seats ≡ set seats i (record { conn = c; place = place })
    placed_is place = placed_set place seats i (is_at seats i is seat)

    pub without_is : without c seats ≡ remove seats i
    without_is = without_removed seats i (is_at seats i is seat)

  -- ---- none has this name ----

  place_found : (seats : List Seat) → place_of c seats ≡ option_map (λ seat. seat.place) (find is_named seats)
  unfolding place_of
  place_found [] = refl
  place_found (seat ∷ seats) = by (place_found seats) (seat.conn == c)
    where
      by : place_of c seats ≡ option_map (λ seat. seat.place) (find is_named seats) → (b : Bool)
          → (let o : Option Place = elim b [ true ↦ Some seat.place | false ↦ place_of c seats ] in o) ≡ option_map (λ seat. seat.place) (cond b (Some seat) (find is_named seats))
      by rest true = refl
      by rest false = rest

  pub none_is : (seats : List Seat) → None ≡ position is_named seats → place_of c seats ≡ None
  none_is seats is = place_found seats ∙ ap (option_map (λ seat. seat.place)) (find_none is_named seats (sym is))

  pub none_without : (seats : List Seat) → place_of c seats ≡ None → without c seats ≡ seats
  unfolding place_of without
  none_without [] none = refl
  none_without (seat ∷ seats) none = by (none_without seats) (seat.conn == c) none
    where
      by : (place_of c seats ≡ None → without c seats ≡ seats) → (b : Bool) → (let o : Option Place = elim b [ true ↦ Some seat.place | false ↦ place_of c seats ] in o) ≡ None → (let l : List Seat = elim b [ true ↦ seats | false ↦ seat ∷ without c seats ] in l) ≡ seat ∷ seats
      by rest true is = absurd (cc)
      by rest false is = ap (λ (l : List Seat). seat ∷ l) (rest is)

  pub behind : (seats more : List Seat) → place_of c seats ≡ None → place_of c (seats ++ more) ≡ place_of c more
  unfolding place_of
  behind [] more none = refl
  behind (seat ∷ seats) more none = by (behind seats more) (seat.conn == c) none
    where
      by : (place_of c seats ≡ None → place_of c (seats ++ more) ≡ place_of c more) → (b : Bool) → (let o : Option Place = elim b [ true ↦ Some seat.place | false ↦ place_of c seats ] in o) ≡ None
          → (let o : Option Place = elim b [ true ↦ Some seat.place | false ↦ place_of c (seats ++ more) ] in o) ≡ place_of c more
      by rest true is = absurd (cc)
      by rest false is = rest is

-- ---- how many haven't chosen ----

pub undecided_append : (seats more : List Seat) → undecided (seats ++ more) ≡ undecided seats + undecided more
undecided_append [] more = omega arith
undecided_append (seat ∷ seats) more = omega (arith, undecided_append seats more)

pub undecided_set : (seats : List Seat) (i : ℕ) (seat new : Seat) → i < length seats → IsSeat seat seats i → undecided (set seats i new) + one_undecided seat.place ≡ undecided seats + one_undecided new.place
undecided_set [] i seat new within at = absurd (omega (arith, within))
undecided_set (other ∷ seats) zero seat new within at = omega (arith, ap (λ (s : Seat). one_undecided s.place) at)
undecided_set (other ∷ seats) (suc i) seat new within at = omega (arith, undecided_set seats i seat new (omega (arith, within)) at)

pub undecided_remove : (seats : List Seat) (i : ℕ) (seat : Seat) → i < length seats → IsSeat seat seats i → undecided (remove seats i) + one_undecided seat.place ≡ undecided seats
undecided_remove [] i seat within at = absurd (omega (arith, within))
undecided_remove (other ∷ seats) zero seat within at = omega (arith, ap (λ (s : Seat). one_undecided s.place) at)
undecided_remove (other ∷ seats) (suc i) seat within at = omega (arith, undecided_remove seats i seat (omega (arith, within)) at)
