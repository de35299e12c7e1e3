-- Lists of seats: where a connection stands in them, and who of them stays.
use Rattle.std.proofs.Common.{◌≡◌, ℕ, ◌+◌, ◌≤◌, Bool, true, false, not, cond, ◌||◌, ◌==◌, List, [], ◌∷◌, ◌++◌, refl, ap, sym, ◌∙◌, arith, Option, Some, None}
use Rattle.std.proofs.lemmas.Bool.{eqb-true, eq-eqb}
use Rattle.proxy_history.specs.Connections.{contains}
use Rattle.proxy_history.specs.Connections as connections
use Rattle.many_history.specs.Many.{Place, Seat, conns_of, place_of, placed, without, seat_of, there, ended}
use Rattle.many_history.proofs.There.{AreThere, place_of_front, there_keeps}
use Rattle.many_history.proofs.Once.{times, times_there, some_times, behind, nowhere, one_if}
use Rattle.many_dropped.proofs.Dropping.{differ}

-- ---- where a connection stands ----

abbrev pub either : Option Place → Option Place → Option Place
either None rest = rest
either (Some place) rest = Some place

pub either_none : (o : Option Place) → either o None ≡ o
either_none None = refl
either_none (Some place) = refl

pub place_of_append : (c : ℕ) (seats more : List Seat) → place_of c (seats ++ more) ≡ either (place_of c seats) (place_of c more)
unfolding place_of
place_of_append c [] more = refl
place_of_append c (seat ∷ seats) more = by (place_of_append c seats more) (seat.conn == c)
  where
    by : place_of c (seats ++ more) ≡ either (place_of c seats) (place_of c more) → (b : Bool)
        → (let o : Option Place = elim b [ true ↦ Some seat.place | false ↦ place_of c (seats ++ more) ] in o) ≡ either (elim b [ true ↦ Some seat.place | false ↦ place_of c seats ]) (place_of c more)
    by rest true = refl
    by rest false = rest

-- in two lists as in two others
pub place_of_both : (c : ℕ) (seats more others rest : List Seat) → place_of c seats ≡ place_of c others → place_of c more ≡ place_of c rest → place_of c (seats ++ more) ≡ place_of c (others ++ rest)
place_of_both c seats more others rest first second =
    place_of_append c seats more ∙ ap (λ (o : Option Place). either o (place_of c more)) first ∙ ap (either (place_of c others)) second ∙ sym (place_of_append c others rest)

-- a list of another connection's seat
pub other_nowhere : (c other : ℕ) (place : Option Place) → (other == c) ≡ false → place_of c (seat_of other place) ≡ None
unfolding place_of
other_nowhere c other None differs = refl
other_nowhere c other (Some place) differs = ap (λ (b : Bool). let o : Option Place = elim b [ true ↦ Some place | false ↦ None ] in o) differs

pub own_seat : (c : ℕ) (place : Option Place) → place_of c (seat_of c place) ≡ place
unfolding place_of
own_seat c None = refl
own_seat c (Some place) = ap (λ (b : Bool). let o : Option Place = elim b [ true ↦ Some place | false ↦ None ] in o) (eq-eqb c c refl)

pub placed_here : (c : ℕ) (old new : Place) (seats : List Seat) → place_of c seats ≡ Some old → place_of c (placed c new seats) ≡ Some new
unfolding place_of placed
placed_here c old new [] at = absurd (cc)
placed_here c old new (seat ∷ seats) at = by (placed_here c old new seats) (seat.conn == c) refl at
  where
    by : (place_of c seats ≡ Some old → place_of c (placed c new seats) ≡ Some new) → (b : Bool) → (seat.conn == c) ≡ b → (let o : Option Place = elim b [ true ↦ Some seat.place | false ↦ place_of c seats ] in o) ≡ Some old
        → place_of c (elim b [ true ↦ record { conn = c; place = new } ∷ seats | false ↦ seat ∷ placed c new seats ]) ≡ Some new
    by rest true same is = ap (λ (b : Bool). let o : Option Place = elim b [ true ↦ Some new | false ↦ place_of c seats ] in o) (eq-eqb c c refl)
    by rest false other is = ap (λ (b : Bool). let o : Option Place = elim b [ true ↦ Some seat.place | false ↦ place_of c (placed c new seats) ] in o) other ∙ rest is

zero_times : (c : ℕ) (seats : List Seat) → place_of c seats ≡ None → times c seats ≡ 0
unfolding place_of
zero_times c [] is = refl
zero_times c (seat ∷ seats) is = by (zero_times c seats) (seat.conn == c) is
  where
    by : (place_of c seats ≡ None → times c seats ≡ 0) → (b : Bool) → (let o : Option Place = elim b [ true ↦ Some seat.place | false ↦ place_of c seats ] in o) ≡ None → one_if b + times c seats ≡ 0
    by rest true is = absurd (cc)
    by rest false is = omega (arith, rest is)

gone_without : (c : ℕ) (seats : List Seat) → times c seats ≤ 1 → place_of c (without c seats) ≡ None
unfolding without place_of
gone_without c [] few = refl
gone_without c (seat ∷ seats) few = by (gone_without c seats) (seat.conn == c) refl few
  where
    by : (times c seats ≤ 1 → place_of c (without c seats) ≡ None) → (b : Bool) → (seat.conn == c) ≡ b → one_if b + times c seats ≤ 1 → place_of c (elim b [ true ↦ seats | false ↦ seat ∷ without c seats ]) ≡ None
    by rest true same few = nowhere c seats (omega (arith, few))
    by rest false other few = ap (λ (b : Bool). let o : Option Place = elim b [ true ↦ Some seat.place | false ↦ place_of c (without c seats) ] in o) other ∙ rest (omega (arith, few))

-- whoever goes by itself is among those behind
pub moved : (c : ℕ) (seats more : List Seat) → times c seats + times c more ≤ 1 → place_of c (without c seats ++ (more ++ seat_of c (place_of c seats))) ≡ place_of c (seats ++ more)
unfolding place_of
moved c seats more once = by (place_of c seats) refl
  where
    left : place_of c (without c seats ++ (more ++ seat_of c (place_of c seats))) ≡ either (place_of c more) (place_of c seats)
    left =
        place_of_append c (without c seats) (more ++ seat_of c (place_of c seats))
        ∙ ap (λ (o : Option Place). either o (place_of c (more ++ seat_of c (place_of c seats)))) (gone_without c seats (omega (arith, once)))
        ∙ place_of_append c more (seat_of c (place_of c seats))
        ∙ ap (either (place_of c more)) (own_seat c (place_of c seats))

    by : (o : Option Place) → place_of c seats ≡ o → place_of c (without c seats ++ (more ++ seat_of c (place_of c seats))) ≡ place_of c (seats ++ more)
    by None is = left ∙ ap (either (place_of c more)) is ∙ either_none (place_of c more) ∙ sym (behind c seats more (zero_times c seats is))
    by (Some place) is =
        left
        ∙ ap (λ (o : Option Place). either o (place_of c seats)) (nowhere c more (omega (arith, once, some_times c seats place is)))
        ∙ is ∙ sym (place_of_front c seats more place is)

-- ---- who stays ----

pub all_there : (f : Place → Bool) (seats : List Seat) → AreThere f seats → there f seats ≡ seats
all_there f [] all = refl
all_there f (seat ∷ seats) all = ap (λ (b : Bool). let l : List Seat = cond b (seat ∷ there f seats) (there f seats) in l) all.0 ∙ ap (λ (l : List Seat). seat ∷ l) (all_there f seats all.1)

pub none_ended : (f : Place → Bool) (seats : List Seat) → AreThere f seats → ended f seats ≡ []
none_ended f [] all = refl
none_ended f (seat ∷ seats) all = ap (λ (b : Bool). let l : List Seat = cond (not b) (seat ∷ ended f seats) (ended f seats) in l) all.0 ∙ none_ended f seats all.1

-- who stands once stands where it stood, whoever of the first is ended
pub stands_where : (f : Place → Bool) (c : ℕ) (seats more : List Seat) → times c seats + times c more ≤ 1 → place_of c (there f seats ++ (more ++ ended f seats)) ≡ place_of c (seats ++ more)
stands_where f c seats more once = by (place_of c seats) refl
  where
    some : (place : Place) → place_of c seats ≡ Some place → (b : Bool) → f place ≡ b → place_of c (there f seats ++ (more ++ ended f seats)) ≡ place_of c (seats ++ more)
    some place at true is = place_of_front c (there f seats) (more ++ ended f seats) place (there_keeps f c seats place is at) ∙ sym (place_of_front c seats more place at)
    some place at false is =
        let here : place_of c (ended f seats) ≡ Some place = there_keeps (λ p. not (f p)) c seats place (ap not is) at in
        let counted = times_there c f seats in
        let one = some_times c (ended f seats) place here in
        behind c (there f seats) (more ++ ended f seats) (omega (arith, once, counted, one))
        ∙ behind c more (ended f seats) (omega (arith, once, counted, one))
        ∙ here ∙ sym (place_of_front c seats more place at)

    by : (o : Option Place) → place_of c seats ≡ o → place_of c (there f seats ++ (more ++ ended f seats)) ≡ place_of c (seats ++ more)
    by None is =
        let none = zero_times c seats is in
        let counted = times_there c f seats in
        behind c (there f seats) (more ++ ended f seats) (omega (arith, none, counted))
        ∙ place_of_append c more (ended f seats)
        ∙ ap (either (place_of c more)) (nowhere c (ended f seats) (omega (arith, none, counted)))
        ∙ either_none (place_of c more)
        ∙ sym (behind c seats more none)
    by (Some place) at = some place at (f place) refl

-- ---- their names ----

pub found : (c : ℕ) (seats : List Seat) → contains c (conns_of seats) ≡ true → (place : Place) × (place_of c seats ≡ Some place)
unfolding place_of
found c [] is = absurd (cc)
found c (seat ∷ seats) is = by (found c seats) (c == seat.conn) refl is
  where
    by : (contains c (conns_of seats) ≡ true → (place : Place) × (place_of c seats ≡ Some place)) → (b : Bool) → (c == seat.conn) ≡ b → (b || contains c (conns_of seats)) ≡ true
        → (place : Place) × ((let o : Option Place = elim (seat.conn == c) [ true ↦ Some seat.place | false ↦ place_of c seats ] in o) ≡ Some place)
    by rest true same is =
        (seat.place, ap (λ (b : Bool). let o : Option Place = elim b [ true ↦ Some seat.place | false ↦ place_of c seats ] in o) (eq-eqb seat.conn c (sym (eqb-true c seat.conn same))))
    by rest false other is =
        let later = rest is in
        (later.0, ap (λ (b : Bool). let o : Option Place = elim b [ true ↦ Some seat.place | false ↦ place_of c seats ] in o) (differ c seat.conn other) ∙ later.1)

no_names : (c : ℕ) (seats : List Seat) → times c seats ≡ 0 → connections.without c (conns_of seats) ≡ conns_of seats
no_names c [] none = refl
no_names c (seat ∷ seats) none = by (no_names c seats) (seat.conn == c) refl none
  where
    by : (times c seats ≡ 0 → connections.without c (conns_of seats) ≡ conns_of seats) → (b : Bool) → (seat.conn == c) ≡ b → one_if b + times c seats ≡ 0 → connections.without c (seat.conn ∷ conns_of seats) ≡ seat.conn ∷ conns_of seats
    by rest true same none = absurd (omega (arith, none))
    by rest false other none =
        ap (λ (b : Bool). let l : List ℕ = cond (not b) (seat.conn ∷ connections.without c (conns_of seats)) (connections.without c (conns_of seats)) in l) (differ seat.conn c other) ∙ ap (λ (l : List ℕ). seat.conn ∷ l) (rest (omega (arith, none)))

-- whoever goes is the only one of its name
pub names_without : (c : ℕ) (seats : List Seat) → times c seats ≤ 1 → conns_of (without c seats) ≡ connections.without c (conns_of seats)
unfolding without
names_without c [] few = refl
names_without c (seat ∷ seats) few = by (names_without c seats) (seat.conn == c) refl few
  where
    by : (times c seats ≤ 1 → conns_of (without c seats) ≡ connections.without c (conns_of seats)) → (b : Bool) → (seat.conn == c) ≡ b → one_if b + times c seats ≤ 1
        → conns_of (elim b [ true ↦ seats | false ↦ seat ∷ without c seats ]) ≡ connections.without c (seat.conn ∷ conns_of seats)
    by rest true same few =
        sym
        (ap (λ (b : Bool). let l : List ℕ = cond (not b) (seat.conn ∷ connections.without c (conns_of seats)) (connections.without c (conns_of seats)) in l) (eq-eqb c seat.conn (sym (eqb-true seat.conn c same)))
        ∙ no_names c seats (omega (arith, few)))
    by rest false other few =
        ap (λ (l : List ℕ). seat.conn ∷ l) (rest (omega (arith, few)))
        ∙ sym (ap (λ (b : Bool). let l : List ℕ = cond (not b) (seat.conn ∷ connections.without c (conns_of seats)) (connections.without c (conns_of seats)) in l) (differ seat.conn c other))
