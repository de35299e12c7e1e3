-- Each device has room for whoever hasn't chosen yet.
use Rattle.std.proofs.Common.{◌≡◌, ℕ, suc, ◌<◌, ◌≤◌, Bool, true, false, not, cond, ◌&&◌, ◌||◌, ◌==◌, List, [], ◌∷◌, length, filter, refl, ap, sym, ◌∙◌, subst, arith, Some}
use Rattle.std.specs.List.{AllByRecursion, IsDistinct}
use Rattle.std.proofs.lemmas.Bool.Decides.{nat_tests}
use Rattle.std.proofs.lemmas.List.Filters.{length-filter_both}
use Rattle.proxy_history.specs.Connections.{present, contains, without}
use Rattle.proxy_history.specs.History.{history}
use Rattle.proxy_history.specs.Adding.{IsOrderly}
use Rattle.proxy_history.specs.Facts.{Fact, Request}
use Rattle.proxy_history.proofs.Lists.{contains_kept}
use Rattle.proxy_state.specs.Stands.{Kept}
use Rattle.many_history.specs.Events.{ManyEvent}
use Rattle.many_history.specs.Devices.{Devices}
use Rattle.many_history.specs.Many.{Place, Undecided, At, Seat, place_of, many, own}
use Rattle.many_history.specs.Seated.{is_at, sits}
use Rattle.many_history.proofs.Few.{few_are_there}
use Rattle.many_history.proofs.Seated.{who_is_there_sits}
use Rattle.many_state.specs.Core.{ManyCore, Stands}
use Rattle.many_state.proofs.Same.{got}

-- ---- names of one list that are all in another ----

pub found_once : (x : ℕ) (ys : List ℕ) → contains x ys ≡ true → 0 < length (filter (λ y. x == y) ys)
found_once x [] is = absurd (cc)
found_once x (y ∷ ys) is = by (found_once x ys) (x == y) is
  where
    by : (contains x ys ≡ true → 0 < length (filter (λ y. x == y) ys)) → (b : Bool) → (b || contains x ys) ≡ true → 0 < length (cond b (y ∷ filter (λ y. x == y) ys) (filter (λ y. x == y) ys))
    by rest true e = omega arith
    by rest false e = rest e

pub not_not : (b : Bool) → not (not b) ≡ b
not_not true = refl
not_not false = refl

pub kept_apart : (x : ℕ) (ys xs : List ℕ) → AllByRecursion (λ z. (x == z) ≡ false) xs → AllByRecursion (λ z. contains z ys ≡ true) xs → AllByRecursion (λ z. contains z (without x ys) ≡ true) xs
kept_apart x ys [] apart are = tt
kept_apart x ys (z ∷ xs) apart are =
    (contains_kept z (λ y. not (x == y)) ys ∙ ap (λ (b : Bool). b && not (x == z)) are.0 ∙ ap not apart.0, kept_apart x ys xs apart.1 are.1)

pub no_more : (xs ys : List ℕ) → IsDistinct (λ c d. c == d) xs → AllByRecursion (λ x. contains x ys ≡ true) xs → length xs ≤ length ys
unfolding IsDistinct
no_more [] ys distinct are = omega arith
no_more (x ∷ xs) ys distinct are =
    omega (arith, no_more xs (without x ys) distinct.1 (kept_apart x ys xs distinct.0 are.1), length-filter_both (λ y. not (x == y)) (λ y. x == y) (λ y. sym (not_not (x == y))) ys, found_once x ys are.0)

pub each_in : (P : ℕ → Type 0) (xs : List ℕ) → ((x : ℕ) → contains x xs ≡ true → P x) → AllByRecursion P xs
each_in P [] holds = tt
each_in P (x ∷ xs) holds = (holds x (grind (arith, nat_tests)), each_in P xs (λ z is. holds z (either z (z == x) is)))
  where
    either : (z : ℕ) (b : Bool) → contains z xs ≡ true → (b || contains z xs) ≡ true
    either z true is = refl
    either z false is = is

-- ---- who sits at a device ----

name_if : Bool → ℕ → List ℕ → List ℕ
name_if true name names = name ∷ names
name_if false name names = names

abbrev name_at : ℕ → Place → List ℕ → List ℕ
name_at d (Undecided bytes) names = names
name_at d (At e name) names = name_if (e == d) name names

names_at : ℕ → List Seat → List ℕ
names_at d [] = []
names_at d (seat ∷ seats) = name_at d seat.place (names_at d seats)

one_more : (d : ℕ) (place : Place) (names : List ℕ) → length (name_at d place names) ≤ suc (length names)
unfolding name_if
one_more d (Undecided bytes) names = omega arith
one_more d (At e name) names = elim (e == d) as (λ b. length (name_if b name names) ≤ suc (length names)) [ true ↦ omega arith | false ↦ omega arith ]

names_le : (d : ℕ) (seats : List Seat) → length (names_at d seats) ≤ length seats
unfolding names_at
names_le d [] = omega arith
names_le d (seat ∷ seats) = omega (arith, one_more d seat.place (names_at d seats), names_le d seats)

-- one who hasn't chosen sits at none
names_less : (d c : ℕ) (bytes : List ℕ) (seats : List Seat) → place_of c seats ≡ Some (Undecided bytes) → length (names_at d seats) < length seats
unfolding names_at place_of
names_less d c bytes [] at = absurd (cc)
names_less d c bytes (seat ∷ seats) at = by (names_less d c bytes seats) (seat.conn == c) at
  where
    here : seat.place ≡ Undecided bytes → length (name_at d seat.place (names_at d seats)) < suc (length seats)
    here same = subst (λ (p : Place). length (name_at d p (names_at d seats)) < suc (length seats)) (sym same) (omega (arith, names_le d seats))

    by : (place_of c seats ≡ Some (Undecided bytes) → length (names_at d seats) < length seats) → (b : Bool) → (elim b [ true ↦ Some seat.place | false ↦ place_of c seats ]) ≡ Some (Undecided bytes)
        → length (name_at d seat.place (names_at d seats)) < suc (length seats)
    by rest true e = here (let same : seat.place ≡ Undecided bytes = cc in same)
    by rest false e = omega (arith, rest e, one_more d seat.place (names_at d seats))

sits_named : (d name : ℕ) (seats : List Seat) → sits d name seats ≡ true → contains name (names_at d seats) ≡ true
unfolding names_at name_if
sits_named d name [] is = absurd (cc)
sits_named d name (seat ∷ seats) is = by (sits_named d name seats) seat.place is
  where
    there : (sits d name seats ≡ true → contains name (names_at d seats) ≡ true) → (other : ℕ) (b t : Bool) → (other == name) ≡ t → (b && t || sits d name seats) ≡ true → contains name (name_if b other (names_at d seats)) ≡ true
    there rest other true true same e = let flipped : (name == other) ≡ true = grind (arith, nat_tests, same) in ap (λ (b : Bool). b || contains name (names_at d seats)) flipped
    there rest other true false differs e = let flipped : (name == other) ≡ false = grind (arith, nat_tests, differs) in ap (λ (b : Bool). b || contains name (names_at d seats)) flipped ∙ rest e
    there rest other false t same e = rest e

    by : (sits d name seats ≡ true → contains name (names_at d seats) ≡ true) → (place : Place) → (is_at d name place || sits d name seats) ≡ true → contains name (name_at d place (names_at d seats)) ≡ true
    by rest (Undecided bytes) e = rest e
    by rest (At e other) f = there rest other (e == d) (other == name) refl f

module _ {Known T S : Type 0} (s : Devices Known) (k : ℕ → Kept Known T S) (Asks : ℕ → Request → List Fact → Type 0) (O : (d : ℕ) → IsOrderly (s.protocol d) (Asks d)) (wide : (d : ℕ) → s.limit ≤ (s.protocol d).limits.connections) where
  pub has_room : (events : List ManyEvent) (x : ManyCore T S) (c : ℕ) (bytes : List ℕ) (d : ℕ) → Stands s k events x → d < s.count → place_of c x.seats ≡ Some (Undecided bytes)
      → length (present (history (s.protocol d) (own s d events))) < (s.protocol d).limits.connections
  has_room events x c bytes d stands of at =
      let seats = (many s events).seats in
      let there : List ℕ = present (history (s.protocol d) (own s d events)) in
      let sit : AllByRecursion (λ name. contains name (names_at d seats) ≡ true) there =
      each_in (λ name. contains name (names_at d seats) ≡ true) there (λ name is. sits_named d name seats (who_is_there_sits s Asks O events d name is))
      in
      let core = got x.cores d (omega (arith, of, stands.count)) in
      omega (arith, no_more there (names_at d seats) (stands.cores d core.0 core.1).stands.holds.names.distinct sit, names_less d c bytes seats (ap (place_of c) (sym stands.seats) ∙ at), few_are_there s events, wide d)
