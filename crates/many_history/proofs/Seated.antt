-- Who is there for a device's proxy is there.
use Rattle.std.proofs.Common.{◌≡◌, ℕ, ◌+◌, Bool, true, false, cond, not, ◌&&◌, ◌||◌, ◌==◌, nat_lt, List, [], ◌∷◌, ◌++◌, length, refl, ap, sym, ◌∙◌, subst, arith, Option, Some, None, if◌then◌else◌}
use Rattle.std.specs.List.{AllByRecursion}
use Rattle.std.proofs.lemmas.Bool.{eqb-true, eq-eqb, and_parts}
use Rattle.std.proofs.lemmas.Bool.Decides.{nat_tests}
use Rattle.proxy_history.specs.Events.{Event}
use Rattle.proxy_history.specs.Events as one
use Rattle.proxy_history.specs.Items.{Item, Joins, items_of}
use Rattle.proxy_history.specs.Facts.{Fact, Request, EventBegan, Leaving, Admitted, Ended}
use Rattle.proxy_history.specs.Connections.{present, is_present, contains}
use Rattle.proxy_history.specs.Coming.{greatest_name}
use Rattle.proxy_history.specs.Protocol.{Protocol}
use Rattle.proxy_history.specs.History.{history, add_all}
use Rattle.proxy_history.specs.Adding.{MayAdd, MayFinish, IsOrderly}
use Rattle.proxy_history.proofs.Lists.{contains_filter, contains_kept}
use Rattle.proxy_history.proofs.Walk.{IsOf, kept_by_event, kept_at_end, sound_items, begun_is_sound}
use Rattle.many_history.specs.Events.{ManyEvent, Joined, Piece, Left, Took, ModemPiece, ModemGone, ModemBack, ModemTook, Now}
use Rattle.many_history.specs.Devices.{Devices, choice_on}
use Rattle.many_history.specs.Many.{Place, Undecided, At, Seat, place_of, placed, without, in_pieces, says, arrival, events_if, only_at, on_choice, on_piece, on_leaving, on_taking, parts, joined_if, chosen_if, said_by, seated, is_there_at, there, names_in, own_after, seats_before, many, own}
use Rattle.many_history.specs.Seated.{is_at, sits}

-- ---- one device ----

-- the event isn't this joining
abbrev pub joins : ℕ → Event → Bool
joins name (one.Joined c) = c == name
joins name _ = false

admits : ℕ → Fact → Bool
admits name (Admitted c) = c == name
admits name _ = false

absent_pushed : (name c : ℕ) (xs : List ℕ) → (name == c) ≡ false → contains name xs ≡ false → contains name (xs ++ c ∷ []) ≡ false
absent_pushed name c [] other none = ap (λ (b : Bool). b || false) other
absent_pushed name c (x ∷ xs) other none = by (absent_pushed name c xs other) (name == x) none
  where
    by : (contains name xs ≡ false → contains name (xs ++ c ∷ []) ≡ false) → (b : Bool) → (b || contains name xs) ≡ false → (b || contains name (xs ++ c ∷ [])) ≡ false
    by rest true e = absurd (cc)
    by rest false e = rest e

absent_more : (name : ℕ) (fact : Fact) (past : List Fact) → admits name fact ≡ false → contains name (present past) ≡ false → contains name (present (fact ∷ past)) ≡ false
unfolding present admits
absent_more name (Admitted c) past other absent = absent_pushed name c (present past) (grind (arith, nat_tests, other)) absent
absent_more name (Ended c why) past other absent = contains_filter name (λ d. not (c == d)) (present past) absent
absent_more name _ past other absent = absent

item_admits : (name : ℕ) (event : Event) (item : Item) (fact : Fact) (past : List Fact) → joins name event ≡ false → IsOf event item → MayAdd item fact past → admits name fact ≡ false
unfolding admits
item_admits name (one.Joined c) (Joins d) (Admitted e) past other of may = ap (λ (n : ℕ). n == name) (may ∙ of) ∙ other
item_admits name _ (Joins d) (Admitted e) past other of may = absurd of
item_admits name event _ (Admitted e) past other of may = absurd may
item_admits name event _ _ past other of may = refl

finish_admits : (name : ℕ) (fact : Fact) (past : List Fact) → MayFinish fact past → admits name fact ≡ false
unfolding admits
finish_admits name (Admitted e) past may = absurd may
finish_admits name _ past may = refl

and_none : (b : Bool) → (b && false) ≡ false
and_none true = refl
and_none false = refl

module _ {Known : Type 0} (p : Protocol Known) (Asks : Request → List Fact → Type 0) (O : IsOrderly p Asks) (name : ℕ) where
  abbrev Is : List Event → Bool
  Is events = is_present name (history p events)

  absent_after : (event : Event) (events : List Event) → joins name event ≡ false → Is events ≡ false → Is (event ∷ events) ≡ false
  unfolding present
  absent_after event events other absent =
      kept_by_event p Asks O (λ past. contains name (present past) ≡ false) event
      (λ item of fact past follows may asked none. absent_more name fact past (item_admits name event item fact past other of may) none)
      (λ fact past follows may asked none. absent_more name fact past (finish_admits name fact past may) none)
      events absent

  absent_parts : (part events : List Event) → AllByRecursion (λ event. joins name event ≡ false) part → Is events ≡ false → Is (part ++ events) ≡ false
  absent_parts [] events none absent = absent
  absent_parts (event ∷ part) events none absent = absent_after event (part ++ events) none.0 (absent_parts part events none.1 absent)

  -- who didn't join was there
  pub came_from : (part events : List Event) → AllByRecursion (λ event. joins name event ≡ false) part → Is (part ++ events) ≡ true → Is events ≡ true
  came_from part events none is = by (Is events) refl
    where
      by : (b : Bool) → Is events ≡ b → Is events ≡ true
      by true e = e
      by false e = absurd (let clash : true ≡ false = sym is ∙ absent_parts part events none e in cc)

  pub gone_once_left : (events : List Event) → Is (one.Left name ∷ events) ≡ false
  unfolding history add_all present
  gone_once_left events =
      let begun : List Fact = EventBegan ∷ history p events in
      kept_at_end p Asks O (λ past. contains name (present past) ≡ false)
      (λ fact past follows may asked none. absent_more name fact past (finish_admits name fact past may) none)
      (add_all p (items_of p events (one.Left name)) begun) (sound_items p Asks O (items_of p events (one.Left name)) begun (begun_is_sound p Asks O events))
      (by (contains name (present begun)) refl)
    where
      by : (b : Bool) → contains name (present (history p events)) ≡ b → contains name (present (if b then Ended name Leaving ∷ EventBegan ∷ history p events else EventBegan ∷ history p events)) ≡ false
      by true e = contains_kept name (λ d. not (name == d)) (present (history p events)) ∙ ap (λ (b : Bool). contains name (present (history p events)) && not b) (eq-eqb name name refl) ∙ and_none (contains name (present (history p events)))
      by false e = e

-- ---- seats ----

either_true : (a b : Bool) → b ≡ true → (a || b) ≡ true
either_true true b e = refl
either_true false b e = e

sits_append : (d name : ℕ) (seats more : List Seat) → sits d name seats ≡ true → sits d name (seats ++ more) ≡ true
sits_append d name [] more is = absurd (cc)
sits_append d name (seat ∷ seats) more is = by (sits_append d name seats more) (is_at d name seat.place) is
  where
    by : (sits d name seats ≡ true → sits d name (seats ++ more) ≡ true) → (b : Bool) → (b || sits d name seats) ≡ true → (b || sits d name (seats ++ more)) ≡ true
    by rest true e = refl
    by rest false e = rest e

-- the seat of a connection that sits elsewhere is changed
sits_placed : (d name c : ℕ) (old new : Place) (seats : List Seat) → place_of c seats ≡ Some old → is_at d name old ≡ false → sits d name seats ≡ true → sits d name (placed c new seats) ≡ true
unfolding place_of placed
sits_placed d name c old new [] at elsewhere is = absurd (cc)
sits_placed d name c old new (seat ∷ seats) at elsewhere is = by (λ e f. sits_placed d name c old new seats e elsewhere f) (seat.conn == c) at
  where
    behind : (place_of c seats ≡ Some old → sits d name seats ≡ true → sits d name (placed c new seats) ≡ true) → (b : Bool) → place_of c seats ≡ Some old → (b || sits d name seats) ≡ true → (b || sits d name (placed c new seats)) ≡ true
    behind rest true e f = refl
    behind rest false e f = rest e f

    here : seat.place ≡ old → sits d name seats ≡ true
    here same = sym (ap (λ (b : Bool). b || sits d name seats) (ap (is_at d name) same ∙ elsewhere)) ∙ is

    by : (place_of c seats ≡ Some old → sits d name seats ≡ true → sits d name (placed c new seats) ≡ true) → (b : Bool) → (elim b [ true ↦ Some seat.place | false ↦ place_of c seats ]) ≡ Some old → sits d name (elim b [ true ↦ record { conn = c; place = new } ∷ seats | false ↦ seat ∷ placed c new seats ]) ≡ true
    by rest true e = either_true (is_at d name new) (sits d name seats) (here (let same : seat.place ≡ old = cc in same))
    by rest false e = behind rest (is_at d name seat.place) e is

-- and so is the new one
placed_sits : (d name c : ℕ) (old : Place) (seats : List Seat) → place_of c seats ≡ Some old → sits d name (placed c (At d name) seats) ≡ true
unfolding place_of placed
placed_sits d name c old [] at = absurd (cc)
placed_sits d name c old (seat ∷ seats) at = by (placed_sits d name c old seats) (seat.conn == c) at
  where
    by : (place_of c seats ≡ Some old → sits d name (placed c (At d name) seats) ≡ true) → (b : Bool) → (elim b [ true ↦ Some seat.place | false ↦ place_of c seats ]) ≡ Some old → sits d name (elim b [ true ↦ record { conn = c; place = At d name } ∷ seats | false ↦ seat ∷ placed c (At d name) seats ]) ≡ true
    by rest true e = let first : (d == d) ≡ true = eq-eqb d d refl in let second : (name == name) ≡ true = eq-eqb name name refl in rw (first, second) refl
    by rest false e = either_true (is_at d name seat.place) _ (rest e)

sits_without : (d name c : ℕ) (old : Place) (seats : List Seat) → place_of c seats ≡ Some old → is_at d name old ≡ false → sits d name seats ≡ true → sits d name (without c seats) ≡ true
unfolding place_of without
sits_without d name c old [] at elsewhere is = absurd (cc)
sits_without d name c old (seat ∷ seats) at elsewhere is = by (λ e f. sits_without d name c old seats e elsewhere f) (seat.conn == c) at
  where
    behind : (place_of c seats ≡ Some old → sits d name seats ≡ true → sits d name (without c seats) ≡ true) → (b : Bool) → place_of c seats ≡ Some old → (b || sits d name seats) ≡ true → (b || sits d name (without c seats)) ≡ true
    behind rest true e f = refl
    behind rest false e f = rest e f

    here : seat.place ≡ old → sits d name seats ≡ true
    here same = sym (ap (λ (b : Bool). b || sits d name seats) (ap (is_at d name) same ∙ elsewhere)) ∙ is

    by : (place_of c seats ≡ Some old → sits d name seats ≡ true → sits d name (without c seats) ≡ true) → (b : Bool) → (elim b [ true ↦ Some seat.place | false ↦ place_of c seats ]) ≡ Some old → sits d name (elim b [ true ↦ seats | false ↦ seat ∷ without c seats ]) ≡ true
    by rest true e = here (let same : seat.place ≡ old = cc in same)
    by rest false e = behind rest (is_at d name seat.place) e is

none_without : (c : ℕ) (seats : List Seat) → place_of c seats ≡ None → without c seats ≡ seats
unfolding place_of without
none_without c [] at = refl
none_without c (seat ∷ seats) at = by (none_without c seats) (seat.conn == c) at
  where
    by : (place_of c seats ≡ None → without c seats ≡ seats) → (b : Bool) → (let o : Option Place = elim b [ true ↦ Some seat.place | false ↦ place_of c seats ] in o) ≡ None → (let l : List Seat = elim b [ true ↦ seats | false ↦ seat ∷ without c seats ] in l) ≡ (seat ∷ seats)
    by rest true e = absurd (cc)
    by rest false e = ap (λ (l : List Seat). seat ∷ l) (rest e)

sits_there : (f : Place → Bool) (d name : ℕ) (seats : List Seat) → f (At d name) ≡ true → sits d name seats ≡ true → sits d name (there f seats) ≡ true
sits_there f d name [] is at = absurd (cc)
sits_there f d name (seat ∷ seats) is at = by (sits_there f d name seats is) (is_at d name seat.place) refl at
  where
    behind : sits d name (there f seats) ≡ true → (b : Bool) → sits d name (cond b (seat ∷ there f seats) (there f seats)) ≡ true
    behind rest true = either_true (is_at d name seat.place) _ rest
    behind rest false = rest

    same : (place : Place) → is_at d name place ≡ true → f place ≡ true
    same (Undecided bytes) e = absurd (cc)
    same (At e other) both =
        let parts = and_parts (e == d) (other == name) both in
        let first : e ≡ d = eqb-true e d parts.0 in
        let second : other ≡ name = eqb-true other name parts.1 in
        ap (λ (n : ℕ). f (At n other)) first ∙ ap (λ (n : ℕ). f (At d n)) second ∙ is

    by : (sits d name seats ≡ true → sits d name (there f seats) ≡ true) → (b : Bool) → is_at d name seat.place ≡ b → (b || sits d name seats) ≡ true → sits d name (cond (f seat.place) (seat ∷ there f seats) (there f seats)) ≡ true
    by rest true here e = ap (λ (b : Bool). sits d name (cond b (seat ∷ there f seats) (there f seats))) (same seat.place here) ∙ ap (λ (b : Bool). b || sits d name (there f seats)) here
    by rest false here e = behind (rest e) (f seat.place)

-- ---- pieces that are said join nobody ----

none_says : (name k : ℕ) (pieces : List (List ℕ)) (said : List Event) → AllByRecursion (λ event. joins name event ≡ false) said → AllByRecursion (λ event. joins name event ≡ false) (says k pieces said)
unfolding says
none_says name k [] said none = none
none_says name k (piece ∷ pieces) said none = none_says name k pieces (one.Piece k piece ∷ said) (refl, none)

none_arrives : (name k : ℕ) (before piece : List ℕ) → (k == name) ≡ false → AllByRecursion (λ event. joins name event ≡ false) (arrival k before piece)
none_arrives name k before piece other = (refl, none_says name k (in_pieces before) (one.Joined k ∷ []) (other, tt))

-- ---- an event ----

module _ {Known : Type 0} (s : Devices Known) (Asks : ℕ → Request → List Fact → Type 0) (O : (d : ℕ) → IsOrderly (s.protocol d) (Asks d)) (events : ℕ → List Event) (seats : List Seat) where
  abbrev IsThere : (ℕ → List Event) → Type 0
  IsThere part = (d name : ℕ) → is_present name (history (s.protocol d) (part d ++ events d)) ≡ true → sits d name seats ≡ true

  abbrev AreThere : (ℕ → List Event) → List Seat → Type 0
  AreThere part after = (d name : ℕ) → is_present name (history (s.protocol d) (part d ++ events d)) ≡ true → sits d name after ≡ true

  module _ (were : (d name : ℕ) → is_present name (history (s.protocol d) (events d)) ≡ true → sits d name seats ≡ true) where
    -- a device meets events of which none is a joining
    only_there : (e : ℕ) (part : List Event) → ((name : ℕ) → AllByRecursion (λ event. joins name event ≡ false) part) → AreThere (only_at e part) seats
    only_there e part none d name = by (d == e)
      where
        by : (b : Bool) → is_present name (history (s.protocol d) (events_if b part ++ events d)) ≡ true → sits d name seats ≡ true
        by true is = were d name (came_from (s.protocol d) (Asks d) (O d) name part (events d) (none name) is)
        by false is = were d name is

    chosen_there : (choice : Option ℕ) (c : ℕ) (before piece : List ℕ) → place_of c seats ≡ Some (Undecided before)
        → AreThere (on_choice choice before piece (names_in events)) (chosen_if choice c (before ++ piece) (names_in events) seats)
    chosen_there None c before piece at = λ d name is. sits_placed d name c (Undecided before) (Undecided (before ++ piece)) seats at refl (were d name is)
    chosen_there (Some e) c before piece at = λ d name. by d name (d == e) refl
      where
        k : ℕ
        k = greatest_name (events e) + 1

        moved : (d name : ℕ) → is_present name (history (s.protocol d) (events d)) ≡ true → sits d name (placed c (At e k) seats) ≡ true
        moved d name is = sits_placed d name c (Undecided before) (At e k) seats at refl (were d name is)

        by_name : (d name : ℕ) → (e ≡ d) → (b : Bool) → (k == name) ≡ b → is_present name (history (s.protocol d) (arrival k before piece ++ events d)) ≡ true → sits d name (placed c (At e k) seats) ≡ true
        by_name d name device true new is = subst (λ (f : ℕ). sits d name (placed c (At f k) seats) ≡ true) (sym device) (subst (λ (n : ℕ). sits d name (placed c (At d n) seats) ≡ true) (sym (eqb-true k name new)) (placed_sits d name c (Undecided before) seats at))
        by_name d name device false other is = moved d name (came_from (s.protocol d) (Asks d) (O d) name (arrival k before piece) (events d) (none_arrives name k before piece other) is)

        by : (d name : ℕ) (b : Bool) → (d == e) ≡ b → is_present name (history (s.protocol d) (events_if b (arrival k before piece) ++ events d)) ≡ true → sits d name (placed c (At e k) seats) ≡ true
        by d name true here is = by_name d name (sym (eqb-true d e here)) (k == name) refl is
        by d name false there is = moved d name is

    said_there : (place : Option Place) (c : ℕ) (piece : List ℕ) → place_of c seats ≡ place → AreThere (on_piece s place piece (names_in events)) (said_by s place c piece (names_in events) seats)
    said_there None c piece at = λ d name is. were d name is
    said_there (Some (Undecided before)) c piece at = chosen_there (choice_on s (before ++ piece)) c before piece at
    said_there (Some (At e k)) c piece at = only_there e (one.Piece k piece ∷ []) (λ name. (refl, tt))

    left_there : (place : Option Place) (c : ℕ) → place_of c seats ≡ place → AreThere (on_leaving place) (without c seats)
    left_there None c at = λ d name is. subst (λ (l : List Seat). sits d name l ≡ true) (sym (none_without c seats at)) (were d name is)
    left_there (Some (Undecided before)) c at = λ d name is. sits_without d name c (Undecided before) seats at refl (were d name is)
    left_there (Some (At e k)) c at = λ d name. by d name (d == e) refl (k == name) refl
      where
        other_place : (d name : ℕ) (b : Bool) → (d == e) ≡ b → (k == name) ≡ false → is_at d name (At e k) ≡ false
        other_place d name b here other = ap (λ (t : Bool). e == d && t) other ∙ and_none (e == d)

        turned : (d : ℕ) → (d == e) ≡ false → (e == d) ≡ false
        turned d other = grind (arith, nat_tests, other)

        by : (d name : ℕ) (b : Bool) → (d == e) ≡ b → (t : Bool) → (k == name) ≡ t → is_present name (history (s.protocol d) (events_if b (one.Left k ∷ []) ++ events d)) ≡ true → sits d name (without c seats) ≡ true
        by d name true here true same is =
            absurd (let gone : is_present name (history (s.protocol d) (one.Left k ∷ events d)) ≡ false = subst (λ (n : ℕ). is_present name (history (s.protocol d) (one.Left n ∷ events d)) ≡ false) (sym (eqb-true k name same)) (gone_once_left (s.protocol d) (Asks d) (O d) name (events d)) in let clash : true ≡ false = sym is ∙ gone in cc)
        by d name true here false other is = sits_without d name c (At e k) seats at (other_place d name true here other) (were d name (came_from (s.protocol d) (Asks d) (O d) name (one.Left k ∷ []) (events d) (refl, tt) is))
        by d name false away t same is = sits_without d name c (At e k) seats at (ap (λ (b : Bool). b && (k == name)) (turned d away)) (were d name is)

    taken_there : (place : Option Place) (count : ℕ) → AreThere (on_taking place count) seats
    taken_there None count = λ d name is. were d name is
    taken_there (Some (Undecided before)) count = λ d name is. were d name is
    taken_there (Some (At e k)) count = only_there e (one.Took k count ∷ []) (λ name. (refl, tt))

    pub event_there : (event : ManyEvent) → AreThere (parts s event seats (names_in events)) (seated s event (names_in events) seats)
    event_there (Joined c) = λ d name is. by d name is (nat_lt (length seats) s.limit)
      where
        by : (d name : ℕ) → is_present name (history (s.protocol d) (events d)) ≡ true → (b : Bool) → sits d name (joined_if b c seats) ≡ true
        by d name is true = sits_append d name seats _ (were d name is)
        by d name is false = were d name is
    event_there (Piece c bytes) = said_there (place_of c seats) c bytes refl
    event_there (Left c) = left_there (place_of c seats) c refl
    event_there (Took c count) = taken_there (place_of c seats) count
    event_there (ModemPiece e bytes) = only_there e (one.ModemPiece bytes ∷ []) (λ name. (refl, tt))
    event_there (ModemGone e) = only_there e (one.ModemGone ∷ []) (λ name. (refl, tt))
    event_there (ModemBack e) = only_there e (one.ModemBack ∷ []) (λ name. (refl, tt))
    event_there (ModemTook e count) = only_there e (one.ModemTook count ∷ []) (λ name. (refl, tt))
    event_there (Now time) = λ d name is. were d name (came_from (s.protocol d) (Asks d) (O d) name (one.Now time ∷ []) (events d) (refl, tt) is)

module _ {Known : Type 0} (s : Devices Known) (Asks : ℕ → Request → List Fact → Type 0) (O : (d : ℕ) → IsOrderly (s.protocol d) (Asks d)) where
  pub who_is_there_sits : (events : List ManyEvent) (d name : ℕ) → is_present name (history (s.protocol d) (own s d events)) ≡ true → sits d name (many s events).seats ≡ true
  unfolding many history present
  who_is_there_sits [] d name is = absurd (cc)
  who_is_there_sits (event ∷ events) d name is =
      let m = many s events in
      sits_there (is_there_at s (own_after s event m)) d name (seats_before s event m) is (event_there s Asks O m.own m.seats (who_is_there_sits events) event d name is)
