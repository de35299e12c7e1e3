-- Who sits at a device under a name, and how many do.
use Rattle.std.proofs.Common.{◌≡◌, ℕ, ◌+◌, ◌≤◌, Bool, true, false, not, cond, ◌&&◌, ◌||◌, ◌==◌, List, [], ◌∷◌, refl, ap, sym, ◌∙◌, arith, Option, Some}
use Rattle.std.specs.List.{AllByRecursion}
use Rattle.std.proofs.lemmas.Bool.{eqb-true, eq-eqb, and_parts}
use Rattle.many_history.specs.Many.{Place, Undecided, At, Seat, place_of, placed, without, joined_if, there, ended}
use Rattle.many_history.specs.Seated.{is_at, sits}
use Rattle.many_history.proofs.There.{AreThere}

abbrev pub one_if : Bool → ℕ
one_if true = 1
one_if false = 0

pub one_at_most : (b : Bool) → one_if b ≤ 1
one_at_most true = omega arith
one_at_most false = omega arith

module _ (d name : ℕ) where
  pub is_here : is_at d name (At d name) ≡ true
  is_here = ap (λ (b : Bool). b && (name == name)) (eq-eqb d d refl) ∙ eq-eqb name name refl

  -- a place at which it sits is this one
  here : (f : Place → Bool) (place : Place) → is_at d name place ≡ true → f place ≡ f (At d name)
  here f (Undecided bytes) is = absurd (cc)
  here f (At e other) is = let parts = and_parts (e == d) (other == name) is in ap (λ (n : ℕ). f (At n other)) (eqb-true e d parts.0) ∙ ap (λ (n : ℕ). f (At d n)) (eqb-true other name parts.1)

  later : (b : Bool) (seats : List Seat) → sits d name seats ≡ true → (b || sits d name seats) ≡ true
  later true seats is = refl
  later false seats is = is

  pub sits_there : (f : Place → Bool) (seats : List Seat) → AreThere f seats → sits d name seats ≡ true → f (At d name) ≡ true
  sits_there f [] all is = absurd (cc)
  sits_there f (seat ∷ seats) all is = by (sits_there f seats all.1) (is_at d name seat.place) refl is
    where
      by : (sits d name seats ≡ true → f (At d name) ≡ true) → (b : Bool) → is_at d name seat.place ≡ b → (b || sits d name seats) ≡ true → f (At d name) ≡ true
      by rest true at e = sym (here f seat.place at) ∙ all.0
      by rest false at e = rest e

  -- who was ended sat there, and isn't there
  pub record WasEnded (f : Place → Bool) (seats : List Seat) : Type 0 where
    pub sat : sits d name seats ≡ true
    pub gone : f (At d name) ≡ false

  pub was_ended : (f : Place → Bool) (c : ℕ) (seats : List Seat) → place_of c (ended f seats) ≡ Some (At d name) → WasEnded f seats
  unfolding place_of
  was_ended f c [] at = absurd (cc)
  was_ended f c (seat ∷ seats) at = by (was_ended f c seats) (f seat.place) refl at
    where
      behind : WasEnded f seats → WasEnded f (seat ∷ seats)
      behind rest = record { sat = later (is_at d name seat.place) seats rest.sat; gone = rest.gone }

      first : f seat.place ≡ false → seat.place ≡ At d name → WasEnded f (seat ∷ seats)
      first gone same = record { sat = ap (λ (p : Place). is_at d name p || sits d name seats) same ∙ ap (λ (b : Bool). b || sits d name seats) is_here; gone = ap f (sym same) ∙ gone }

      by_conn : (place_of c (ended f seats) ≡ Some (At d name) → WasEnded f seats) → f seat.place ≡ false → (b : Bool) → (let o : Option Place = elim b [ true ↦ Some seat.place | false ↦ place_of c (ended f seats) ] in o) ≡ Some (At d name) → WasEnded f (seat ∷ seats)
      by_conn rest gone true e = first gone (let same : seat.place ≡ At d name = cc in same)
      by_conn rest gone false e = behind (rest e)

      by : (place_of c (ended f seats) ≡ Some (At d name) → WasEnded f seats) → (b : Bool) → f seat.place ≡ b → place_of c (cond (not b) (seat ∷ ended f seats) (ended f seats)) ≡ Some (At d name) → WasEnded f (seat ∷ seats)
      by rest true there e = behind (rest e)
      by rest false gone e = by_conn rest gone (seat.conn == c) e

  -- ---- who sits behind a change sat before it ----

  pub sat_joined : (b : Bool) (c : ℕ) (seats : List Seat) → sits d name (joined_if b c seats) ≡ true → sits d name seats ≡ true
  sat_joined false c seats is = is
  sat_joined true c [] is = absurd (cc)
  sat_joined true c (seat ∷ seats) is = by (sat_joined true c seats) (is_at d name seat.place) is
    where
      by : (sits d name (joined_if true c seats) ≡ true → sits d name seats ≡ true) → (b : Bool) → (b || sits d name (joined_if true c seats)) ≡ true → (b || sits d name seats) ≡ true
      by rest true e = refl
      by rest false e = rest e

  pub sat_placed : (c : ℕ) (place : Place) (seats : List Seat) → is_at d name place ≡ false → sits d name (placed c place seats) ≡ true → sits d name seats ≡ true
  unfolding placed
  sat_placed c place [] elsewhere is = absurd (cc)
  sat_placed c place (seat ∷ seats) elsewhere is = by (sat_placed c place seats elsewhere) (seat.conn == c) is
    where
      behind : (sits d name (placed c place seats) ≡ true → sits d name seats ≡ true) → (b : Bool) → (b || sits d name (placed c place seats)) ≡ true → (b || sits d name seats) ≡ true
      behind rest true e = refl
      behind rest false e = rest e

      by : (sits d name (placed c place seats) ≡ true → sits d name seats ≡ true) → (b : Bool) → sits d name (elim b [ true ↦ record { conn = c; place = place } ∷ seats | false ↦ seat ∷ placed c place seats ]) ≡ true → (is_at d name seat.place || sits d name seats) ≡ true
      by rest true e = later (is_at d name seat.place) seats (sym (ap (λ (b : Bool). b || sits d name seats) elsewhere) ∙ e)
      by rest false e = behind rest (is_at d name seat.place) e

  pub sat_without : (c : ℕ) (seats : List Seat) → sits d name (without c seats) ≡ true → sits d name seats ≡ true
  unfolding without
  sat_without c [] is = absurd (cc)
  sat_without c (seat ∷ seats) is = by (sat_without c seats) (seat.conn == c) is
    where
      behind : (sits d name (without c seats) ≡ true → sits d name seats ≡ true) → (b : Bool) → (b || sits d name (without c seats)) ≡ true → (b || sits d name seats) ≡ true
      behind rest true e = refl
      behind rest false e = rest e

      by : (sits d name (without c seats) ≡ true → sits d name seats ≡ true) → (b : Bool) → sits d name (elim b [ true ↦ seats | false ↦ seat ∷ without c seats ]) ≡ true → (is_at d name seat.place || sits d name seats) ≡ true
      by rest true e = later (is_at d name seat.place) seats e
      by rest false e = behind rest (is_at d name seat.place) e

  -- ---- how many sit there ----

  abbrev pub times : List Seat → ℕ
  times [] = 0
  times (seat ∷ seats) = one_if (is_at d name seat.place) + times seats

  pub some_times : (seats : List Seat) → sits d name seats ≡ true → 1 ≤ times seats
  some_times [] is = absurd (cc)
  some_times (seat ∷ seats) is = by (some_times seats) (is_at d name seat.place) is
    where
      by : (sits d name seats ≡ true → 1 ≤ times seats) → (b : Bool) → (b || sits d name seats) ≡ true → 1 ≤ one_if b + times seats
      by rest true e = omega arith
      by rest false e = omega (arith, rest e)

  pub times_joined : (b : Bool) (c : ℕ) (seats : List Seat) → times (joined_if b c seats) ≡ times seats
  times_joined false c seats = refl
  times_joined true c [] = refl
  times_joined true c (seat ∷ seats) = ap (λ (n : ℕ). one_if (is_at d name seat.place) + n) (times_joined true c seats)

  pub times_placed : (c : ℕ) (place : Place) (seats : List Seat) → times (placed c place seats) ≤ times seats + one_if (is_at d name place)
  unfolding placed
  times_placed c place [] = omega arith
  times_placed c place (seat ∷ seats) = by (times_placed c place seats) (seat.conn == c)
    where
      by : times (placed c place seats) ≤ times seats + one_if (is_at d name place) → (b : Bool)
          → times (elim b [ true ↦ record { conn = c; place = place } ∷ seats | false ↦ seat ∷ placed c place seats ]) ≤ one_if (is_at d name seat.place) + times seats + one_if (is_at d name place)
      by rest true = omega arith
      by rest false = omega (arith, rest)

  pub times_without : (c : ℕ) (seats : List Seat) → times (without c seats) ≤ times seats
  unfolding without
  times_without c [] = omega arith
  times_without c (seat ∷ seats) = by (times_without c seats) (seat.conn == c)
    where
      by : times (without c seats) ≤ times seats → (b : Bool) → times (elim b [ true ↦ seats | false ↦ seat ∷ without c seats ]) ≤ one_if (is_at d name seat.place) + times seats
      by rest true = omega arith
      by rest false = omega (arith, rest)

  -- one that sits there goes
  pub times_less : (c : ℕ) (seats : List Seat) → place_of c seats ≡ Some (At d name) → times (without c seats) + 1 ≡ times seats
  unfolding without place_of
  times_less c [] at = absurd (cc)
  times_less c (seat ∷ seats) at = by (times_less c seats) (seat.conn == c) at
    where
      first : seat.place ≡ At d name → one_if (is_at d name seat.place) ≡ 1
      first same = ap (λ (p : Place). one_if (is_at d name p)) same ∙ ap one_if is_here

      by : (place_of c seats ≡ Some (At d name) → times (without c seats) + 1 ≡ times seats) → (b : Bool) → (let o : Option Place = elim b [ true ↦ Some seat.place | false ↦ place_of c seats ] in o) ≡ Some (At d name)
          → times (elim b [ true ↦ seats | false ↦ seat ∷ without c seats ]) + 1 ≡ one_if (is_at d name seat.place) + times seats
      by rest true e = omega (arith, first (let same : seat.place ≡ At d name = cc in same))
      by rest false e = omega (arith, rest e)

  pub times_there : (f : Place → Bool) (seats : List Seat) → times (there f seats) ≤ times seats
  times_there f [] = omega arith
  times_there f (seat ∷ seats) = by (times_there f seats) (f seat.place)
    where
      by : times (there f seats) ≤ times seats → (b : Bool) → times (cond b (seat ∷ there f seats) (there f seats)) ≤ one_if (is_at d name seat.place) + times seats
      by rest true = omega (arith, rest)
      by rest false = omega (arith, rest)

-- ---- whatever holds of all places ----

module _ (P : Place → Type 0) where
  abbrev pub Hold : List Seat → Type 0
  Hold seats = AllByRecursion (λ seat. P seat.place) seats

  pub all_placed : (c : ℕ) (place : Place) (seats : List Seat) → P place → Hold seats → Hold (placed c place seats)
  unfolding placed
  all_placed c place [] is all = tt
  all_placed c place (seat ∷ seats) is all =
      let By : Bool → Type 0 = λ b. Hold (elim b [ true ↦ record { conn = c; place = place } ∷ seats | false ↦ seat ∷ placed c place seats ]) in
      elim (seat.conn == c) as By [ true ↦ (is, all.1) | false ↦ (all.0, all_placed c place seats is all.1) ]

  pub all_without : (c : ℕ) (seats : List Seat) → Hold seats → Hold (without c seats)
  unfolding without
  all_without c [] all = tt
  all_without c (seat ∷ seats) all =
      let By : Bool → Type 0 = λ b. Hold (elim b [ true ↦ seats | false ↦ seat ∷ without c seats ]) in elim (seat.conn == c) as By [ true ↦ all.1 | false ↦ (all.0, all_without c seats all.1) ]
