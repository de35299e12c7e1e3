-- Who sits is there for its device's proxy, and notices nothing of what that proxy doesn't meet.
use Rattle.std.proofs.Common.{◌≡◌, ℕ, ◌+◌, Bool, true, false, cond, ◌==◌, nat_lt, List, [], ◌∷◌, ◌++◌, length, refl, ap, sym, ◌∙◌, Option, Some, None}
use Rattle.std.specs.List.{AllByRecursion}
use Rattle.std.proofs.lemmas.Bool.{eqb-true, eq-eqb}
use Rattle.proxy_history.specs.Events.{Event}
use Rattle.proxy_history.specs.Events as one
use Rattle.proxy_history.specs.Connections.{is_present}
use Rattle.proxy_history.specs.History.{history}
use Rattle.proxy_history.specs.History as one_history
use Rattle.many_history.specs.Events.{ManyEvent, Joined, Piece, Left, Took, ModemPiece, ModemGone, ModemBack, ModemTook, Now}
use Rattle.many_history.specs.Devices.{Devices, choice_on}
use Rattle.many_history.specs.Many.{Place, Undecided, At, Seat, place_of, placed, without, events_if, on_leaving, parts, joined_if, chosen_if, said_by, seated, there, is_there_at, names_in, own_after, seats_before, many}
use Rattle.many_history.specs.Queues.{text_at, text_for}

-- ---- where a connection is ----

pub place_of_front : (c : ℕ) (seats more : List Seat) (place : Place) → place_of c seats ≡ Some place → place_of c (seats ++ more) ≡ Some place
unfolding place_of
place_of_front c [] more place at = absurd (cc)
place_of_front c (seat ∷ seats) more place at = by (place_of_front c seats more place) (seat.conn == c) at
  where
    by : (place_of c seats ≡ Some place → place_of c (seats ++ more) ≡ Some place) → (b : Bool) → (elim b [ true ↦ Some seat.place | false ↦ place_of c seats ]) ≡ Some place → (elim b [ true ↦ Some seat.place | false ↦ place_of c (seats ++ more) ]) ≡ Some place
    by rest true is = is
    by rest false is = rest is

-- the place of another connection changes
pub placed_other : (c other : ℕ) (place : Place) (seats : List Seat) → (other == c) ≡ false → place_of c (placed other place seats) ≡ place_of c seats
unfolding place_of placed
placed_other c other place [] differs = refl
placed_other c other place (seat ∷ seats) differs = by (placed_other c other place seats differs) (seat.conn == other) refl
  where
    skips : (conn : ℕ) (at : Place) → conn ≡ other → (elim (conn == c) [ true ↦ Some at | false ↦ place_of c seats ]) ≡ place_of c seats
    skips conn at same = ap (λ (b : Bool). let o : Option Place = elim b [ true ↦ Some at | false ↦ place_of c seats ] in o) (ap (λ (n : ℕ). n == c) same ∙ differs)

    by : place_of c (placed other place seats) ≡ place_of c seats → (b : Bool) → (seat.conn == other) ≡ b
        → place_of c (elim b [ true ↦ record { conn = other; place = place } ∷ seats | false ↦ seat ∷ placed other place seats ]) ≡ (let o : Option Place = elim (seat.conn == c) [ true ↦ Some seat.place | false ↦ place_of c seats ] in o)
    by rest true here = skips other place refl ∙ sym (skips seat.conn seat.place (eqb-true seat.conn other here))
    by rest false there = ap (λ (o : Option Place). let l : Option Place = elim (seat.conn == c) [ true ↦ Some seat.place | false ↦ o ] in l) rest

-- another connection goes
pub without_other : (c other : ℕ) (seats : List Seat) → (other == c) ≡ false → place_of c (without other seats) ≡ place_of c seats
unfolding place_of without
without_other c other [] differs = refl
without_other c other (seat ∷ seats) differs = by (without_other c other seats differs) (seat.conn == other) refl
  where
    skips : seat.conn ≡ other → place_of c seats ≡ (let o : Option Place = elim (seat.conn == c) [ true ↦ Some seat.place | false ↦ place_of c seats ] in o)
    skips same = sym (ap (λ (b : Bool). let o : Option Place = elim b [ true ↦ Some seat.place | false ↦ place_of c seats ] in o) (ap (λ (n : ℕ). n == c) same ∙ differs))

    by : place_of c (without other seats) ≡ place_of c seats → (b : Bool) → (seat.conn == other) ≡ b
        → place_of c (elim b [ true ↦ seats | false ↦ seat ∷ without other seats ]) ≡ (let o : Option Place = elim (seat.conn == c) [ true ↦ Some seat.place | false ↦ place_of c seats ] in o)
    by rest true here = skips (eqb-true seat.conn other here)
    by rest false there = ap (λ (o : Option Place). let l : Option Place = elim (seat.conn == c) [ true ↦ Some seat.place | false ↦ o ] in l) rest

-- those of some places stay
pub there_keeps : (f : Place → Bool) (c : ℕ) (seats : List Seat) (place : Place) → f place ≡ true → place_of c seats ≡ Some place → place_of c (there f seats) ≡ Some place
unfolding place_of
there_keeps f c [] place is at = absurd (cc)
there_keeps f c (seat ∷ seats) place is at = by (there_keeps f c seats place is) (seat.conn == c) refl at
  where
    first : (b : Bool) → f seat.place ≡ b → (seat.conn == c) ≡ true → seat.place ≡ place → place_of c (cond b (seat ∷ there f seats) (there f seats)) ≡ Some place
    first true kept here same = ap (λ (b : Bool). let o : Option Place = elim b [ true ↦ Some seat.place | false ↦ place_of c (there f seats) ] in o) here ∙ ap (λ (p : Place). Some p) same
    first false gone here same = absurd (let clash : true ≡ false = sym is ∙ ap f (sym same) ∙ gone in cc)

    behind : place_of c (there f seats) ≡ Some place → (b : Bool) → (seat.conn == c) ≡ false → place_of c (cond b (seat ∷ there f seats) (there f seats)) ≡ Some place
    behind rest true other = ap (λ (b : Bool). let o : Option Place = elim b [ true ↦ Some seat.place | false ↦ place_of c (there f seats) ] in o) other ∙ rest
    behind rest false other = rest

    by : (place_of c seats ≡ Some place → place_of c (there f seats) ≡ Some place) → (b : Bool) → (seat.conn == c) ≡ b → (elim b [ true ↦ Some seat.place | false ↦ place_of c seats ]) ≡ Some place
        → place_of c (cond (f seat.place) (seat ∷ there f seats) (there f seats)) ≡ Some place
    by rest true here e = first (f seat.place) refl here (let same : seat.place ≡ place = cc in same)
    by rest false other e = behind (rest e) (f seat.place) other

-- ---- who sits is there ----

abbrev pub AreThere : (Place → Bool) → List Seat → Type 0
AreThere f seats = AllByRecursion (λ seat. f seat.place ≡ true) seats

filter_passes : (f : Place → Bool) (seats : List Seat) → AreThere f (there f seats)
filter_passes f [] = tt
filter_passes f (seat ∷ seats) = by (filter_passes f seats) (f seat.place) refl
  where
    by : AreThere f (there f seats) → (b : Bool) → f seat.place ≡ b → AreThere f (cond b (seat ∷ there f seats) (there f seats))
    by rest true is = (is, rest)
    by rest false is = rest

pub placed_is_there : (f : Place → Bool) (c : ℕ) (seats : List Seat) (place : Place) → AreThere f seats → place_of c seats ≡ Some place → f place ≡ true
unfolding place_of
placed_is_there f c [] place all at = absurd (cc)
placed_is_there f c (seat ∷ seats) place all at = by (placed_is_there f c seats place all.1) (seat.conn == c) at
  where
    by : (place_of c seats ≡ Some place → f place ≡ true) → (b : Bool) → (elim b [ true ↦ Some seat.place | false ↦ place_of c seats ]) ≡ Some place → f place ≡ true
    by rest true is = (let same : seat.place ≡ place = cc in ap f (sym same) ∙ all.0)
    by rest false is = rest is

module _ {Known : Type 0} (s : Devices Known) where
  pub seats_are_there : (events : List ManyEvent) → AreThere (is_there_at s (many s events).own) (many s events).seats
  unfolding many
  seats_are_there [] = tt
  seats_are_there (event ∷ events) = filter_passes (is_there_at s (own_after s event (many s events))) (seats_before s event (many s events))

  pub text_of_seat : (events : List ManyEvent) (c d name : ℕ) → place_of c (many s events).seats ≡ Some (At d name) → text_for s c events ≡ one_history.text_for (s.protocol d) name ((many s events).own d)
  text_of_seat events c d name at = let m = many s events in ap (text_at s m.own) (place_of_front c m.seats m.gone (At d name) at)

  -- ---- an event of which a device meets nothing ----

  module _ (c d name : ℕ) (seats : List Seat) (names : ℕ → ℕ) (at : place_of c seats ≡ Some (At d name)) where
    abbrev Stays : List Seat → Type 0
    Stays after = place_of c after ≡ Some (At d name)

    at_too : (other : ℕ) → (other == c) ≡ true → place_of other seats ≡ Some (At d name)
    at_too other same = ap (λ (n : ℕ). place_of n seats) (eqb-true other c same) ∙ at

    stays_by_piece : (other : ℕ) (piece : List ℕ) (place : Option Place) → (other == c) ≡ false → Stays (said_by s place other piece names seats)
    stays_by_piece other piece None differs = at
    stays_by_piece other piece (Some (At e k)) differs = at
    stays_by_piece other piece (Some (Undecided before)) differs = by (choice_on s (before ++ piece))
      where
        by : (choice : Option ℕ) → Stays (chosen_if choice other (before ++ piece) names seats)
        by None = placed_other c other (Undecided (before ++ piece)) seats differs ∙ at
        by (Some e) = placed_other c other (At e (names e + 1)) seats differs ∙ at

    met_leaving : (other : ℕ) → (other == c) ≡ true → on_leaving (place_of other seats) d ≡ [] → ⊥
    met_leaving other same none =
        let clash : (one.Left name ∷ []) ≡ [] = sym (ap (λ (b : Bool). events_if b (one.Left name ∷ [])) (eq-eqb d d refl)) ∙ ap (λ (place : Option Place). on_leaving place d) (sym (at_too other same)) ∙ none in cc

    stays : (event : ManyEvent) → parts s event seats names d ≡ [] → Stays (seated s event names seats)
    stays (Joined other) none = by (nat_lt (length seats) s.limit)
      where
        by : (b : Bool) → Stays (joined_if b other seats)
        by true = place_of_front c seats _ (At d name) at
        by false = at
    stays (Piece other bytes) none = by (other == c) refl
      where
        by : (b : Bool) → (other == c) ≡ b → Stays (said_by s (place_of other seats) other bytes names seats)
        by true same = ap (λ (place : Option Place). place_of c (said_by s place other bytes names seats)) (at_too other same) ∙ at
        by false differs = stays_by_piece other bytes (place_of other seats) differs
    stays (Left other) none = by (other == c) refl
      where
        by : (b : Bool) → (other == c) ≡ b → Stays (without other seats)
        by true same = absurd (met_leaving other same none)
        by false differs = without_other c other seats differs ∙ at
    stays (Took other count) none = at
    stays (ModemPiece e bytes) none = at
    stays (ModemGone e) none = at
    stays (ModemBack e) none = at
    stays (ModemTook e count) none = at
    stays (Now time) none = at

  pub unmet_changes_nothing : (event : ManyEvent) (events : List ManyEvent) (c d name : ℕ) → place_of c (many s events).seats ≡ Some (At d name)
      → parts s event (many s events).seats (names_in (many s events).own) d ≡ []
      → (place_of c (many s (event ∷ events)).seats ≡ Some (At d name)) × (text_for s c (event ∷ events) ≡ text_for s c events)
  unfolding many
  unmet_changes_nothing event events c d name at none =
      let m = many s events in
      let own_same : own_after s event m d ≡ m.own d = ap (λ (l : List Event). l ++ m.own d) none in
      let is_there : is_there_at s (own_after s event m) (At d name) ≡ true =
      ap (λ (l : List Event). is_present name (history (s.protocol d) l)) own_same ∙ placed_is_there (is_there_at s m.own) c m.seats (At d name) (seats_are_there events) at
      in
      let stays_there = there_keeps (is_there_at s (own_after s event m)) c (seats_before s event m) (At d name) is_there (stays c d name m.seats (names_in m.own) at event none) in
      (stays_there, text_of_seat (event ∷ events) c d name stays_there ∙ ap (λ (l : List Event). one_history.text_for (s.protocol d) name l) own_same ∙ sym (text_of_seat events c d name at))
