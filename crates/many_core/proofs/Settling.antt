-- Those who aren't there for their devices are taken out, one after the other.
use Rattle.std.proofs.Common.{◌≡◌, ℕ, zero, suc, ◌+◌, ◌<◌, ◌≤◌, Bool, true, false, not, cond, List, [], ◌∷◌, ◌++◌, length, take, get_or, refl, ap, sym, ◌∙◌, subst, arith, append_assoc, append-nil}
use Rattle.std.specs.List.{AllByRecursion, remove}
use Rattle.many_history.specs.Many.{Place, Seat, there, ended}
use Rattle.many_state.specs.Laws.{AreAll}
use Rattle.many_seats.specs.Seats.{IsSeat}

module _ (f : Place → Bool) where
  pub one_more : (seats : List Seat) (i : ℕ) (seat : Seat) → i < length seats → IsSeat seat seats i → f seat.place ≡ true → AreAll f (take i seats) → AreAll f (take (suc i) seats)
  one_more [] i seat within at is all = absurd (omega (arith, within))
  one_more (other ∷ seats) zero seat within at is all = (ap (λ (s : Seat). f s.place) (sym at) ∙ is, tt)
  one_more (other ∷ seats) (suc i) seat within at is all = (all.0, one_more seats i seat (omega (arith, within)) at is all.1)

  pub still_in_front : (seats : List Seat) (i : ℕ) → AreAll f (take i seats) → AreAll f (take i (remove seats i))
  still_in_front [] zero all = tt
  still_in_front [] (suc i) all = tt
  still_in_front (other ∷ seats) zero all = tt
  still_in_front (other ∷ seats) (suc i) all = (all.0, still_in_front seats i all.1)

  pub there_still : (seats : List Seat) (i : ℕ) (seat : Seat) → i < length seats → IsSeat seat seats i → f seat.place ≡ false → there f (remove seats i) ≡ there f seats
  there_still [] i seat within at gone = absurd (omega (arith, within))
  there_still (other ∷ seats) zero seat within at gone = sym (ap (λ (b : Bool). let l : List Seat = cond b (other ∷ there f seats) (there f seats) in l) (ap (λ (s : Seat). f s.place) (sym at) ∙ gone))
  there_still (other ∷ seats) (suc i) seat within at gone = ap (λ (l : List Seat). let m : List Seat = cond (f other.place) (other ∷ l) l in m) (there_still seats i seat (omega (arith, within)) at gone)

  ended_first : (seats : List Seat) (i : ℕ) (seat : Seat) → i < length seats → IsSeat seat seats i → f seat.place ≡ false → AreAll f (take i seats) → ended f seats ≡ seat ∷ ended f (remove seats i)
  ended_first [] i seat within at gone all = absurd (omega (arith, within))
  ended_first (other ∷ seats) zero seat within at gone all =
      ap (λ (b : Bool). let l : List Seat = cond (not b) (other ∷ ended f seats) (ended f seats) in l) (ap (λ (s : Seat). f s.place) (sym at) ∙ gone) ∙ ap (λ (s : Seat). s ∷ ended f seats) (sym at)
  ended_first (other ∷ seats) (suc i) seat within at gone all =
      ap (λ (b : Bool). let l : List Seat = cond (not b) (other ∷ ended f seats) (ended f seats) in l) all.0
      ∙ ended_first seats i seat (omega (arith, within)) at gone all.1
      ∙ sym (ap (λ (b : Bool). let l : List Seat = seat ∷ cond (not b) (other ∷ ended f (remove seats i)) (ended f (remove seats i)) in l) all.0)

  pub dropped_next : (dropped seats : List Seat) (i : ℕ) (seat : Seat) → i < length seats → IsSeat seat seats i → f seat.place ≡ false → AreAll f (take i seats) → (dropped ++ seat ∷ []) ++ ended f (remove seats i) ≡ dropped ++ ended f seats
  dropped_next dropped seats i seat within at gone all = append_assoc dropped (seat ∷ []) (ended f (remove seats i)) ∙ ap (λ (l : List Seat). dropped ++ l) (sym (ended_first seats i seat within at gone all))

  -- ---- all are there ----

  pub all_in_front : (seats : List Seat) (i : ℕ) → length seats ≤ i → AreAll f (take i seats) → AreAll f seats
  all_in_front [] i few all = tt
  all_in_front (seat ∷ seats) zero few all = absurd (omega (arith, few))
  all_in_front (seat ∷ seats) (suc i) few all = (all.0, all_in_front seats i (omega (arith, few)) all.1)

  pub all_there : (seats : List Seat) → AreAll f seats → there f seats ≡ seats
  all_there [] all = refl
  all_there (seat ∷ seats) all = ap (λ (b : Bool). let l : List Seat = cond b (seat ∷ there f seats) (there f seats) in l) all.0 ∙ ap (λ (l : List Seat). seat ∷ l) (all_there seats all.1)

  pub none_ended : (seats : List Seat) → AreAll f seats → ended f seats ≡ []
  none_ended [] all = refl
  none_ended (seat ∷ seats) all = ap (λ (b : Bool). let l : List Seat = cond (not b) (seat ∷ ended f seats) (ended f seats) in l) all.0 ∙ none_ended seats all.1

-- one is taken out
pub one_less : (seats : List Seat) (i : ℕ) → i < length seats → length (remove seats i) + 1 ≡ length seats
one_less [] i within = absurd (omega (arith, within))
one_less (seat ∷ seats) zero within = omega arith
one_less (seat ∷ seats) (suc i) within = omega (arith, one_less seats i (omega (arith, within)))
