-- No two connections, there or gone, have one place. Lists of events have the newest first.
use Rattle.std.proofs.Common.{◌≡◌, ℕ, ◌+◌, ◌<◌, ◌≤◌, Bool, true, false, not, cond, ◌&&◌, ◌==◌, nat_lt, List, [], ◌∷◌, ◌++◌, length, refl, ap, sym, ◌∙◌, arith, Option, Some, None}
use Rattle.std.proofs.lemmas.Bool.{eqb-true, eq-eqb}
use Rattle.proxy_history.specs.Events.{Event}
use Rattle.proxy_history.specs.Events as one
use Rattle.proxy_history.specs.Coming.{greatest_name}
use Rattle.many_history.specs.Events.{ManyEvent, Joined, Piece, Left, Took, ModemPiece, ModemGone, ModemBack, ModemTook, Now}
use Rattle.many_history.specs.Devices.{Devices, choice_on}
use Rattle.many_history.specs.Many.{Place, Undecided, At, Seat, place_of, placed, without, seat_of, arrival, events_if, only_at, on_choice, on_piece, on_leaving, on_taking, parts, chosen_if, said_by, seated, left, there, ended, is_there_at, names_in, own_after, seats_before, many, own}
use Rattle.many_history.specs.Seated.{is_at}
use Rattle.many_dropped.proofs.Dropping.{and_none, differ, grows, arrives_greatest}
use Rattle.many_dropped.proofs.Sitting.{one_if, one_at_most, is_here, times, times_joined, times_placed}

module _ (d name : ℕ) where
  -- ---- how many sit there ----

  times_append : (seats more : List Seat) → times d name (seats ++ more) ≡ times d name seats + times d name more
  times_append [] more = omega arith
  times_append (seat ∷ seats) more = omega (arith, times_append seats more)

  times_split : (f : Place → Bool) (seats : List Seat) → times d name (there f seats) + times d name (ended f seats) ≡ times d name seats
  times_split f [] = refl
  times_split f (seat ∷ seats) = by (times_split f seats) (f seat.place)
    where
      by : times d name (there f seats) + times d name (ended f seats) ≡ times d name seats → (b : Bool)
          → times d name (cond b (seat ∷ there f seats) (there f seats)) + times d name (cond (not b) (seat ∷ ended f seats) (ended f seats)) ≡ one_if (is_at d name seat.place) + times d name seats
      by rest true = omega (arith, rest)
      by rest false = omega (arith, rest)

  times_left : (c : ℕ) (seats : List Seat) → times d name (without c seats) + times d name (seat_of c (place_of c seats)) ≡ times d name seats
  unfolding without place_of
  times_left c [] = refl
  times_left c (seat ∷ seats) = by (times_left c seats) (seat.conn == c)
    where
      by : times d name (without c seats) + times d name (seat_of c (place_of c seats)) ≡ times d name seats → (b : Bool)
          → times d name (elim b [ true ↦ seats | false ↦ seat ∷ without c seats ]) + times d name (seat_of c (elim b [ true ↦ Some seat.place | false ↦ place_of c seats ])) ≡ one_if (is_at d name seat.place) + times d name seats
      by rest true = omega arith
      by rest false = omega (arith, rest)

  -- one that has this place is counted
  pub one_time : (c : ℕ) (seats : List Seat) → place_of c seats ≡ Some (At d name) → 1 ≤ times d name seats
  unfolding place_of
  one_time c [] at = absurd (cc)
  one_time c (seat ∷ seats) at = by (one_time c seats) (seat.conn == c) at
    where
      here : (place : Place) → place ≡ At d name → one_if (is_at d name place) ≡ 1
      here place same = ap (λ (p : Place). one_if (is_at d name p)) same ∙ ap one_if (is_here d name)

      by : (place_of c seats ≡ Some (At d name) → 1 ≤ times d name seats) → (b : Bool) → (let o : Option Place = elim b [ true ↦ Some seat.place | false ↦ place_of c seats ] in o) ≡ Some (At d name) → 1 ≤ one_if (is_at d name seat.place) + times d name seats
      by rest true is = omega (arith, here seat.place (let same : seat.place ≡ At d name = cc in same))
      by rest false is = omega (arith, rest is)

  -- and so are two
  two_times : (c k : ℕ) (seats : List Seat) → (c == k) ≡ false → place_of c seats ≡ Some (At d name) → place_of k seats ≡ Some (At d name) → 2 ≤ times d name seats
  unfolding place_of
  two_times c k [] other at too = absurd (cc)
  two_times c k (seat ∷ seats) other at too = by (two_times c k seats other) (seat.conn == c) refl (seat.conn == k) refl at too
    where
      here : seat.place ≡ At d name → one_if (is_at d name seat.place) ≡ 1
      here same = ap (λ (p : Place). one_if (is_at d name p)) same ∙ ap one_if (is_here d name)

      by : (place_of c seats ≡ Some (At d name) → place_of k seats ≡ Some (At d name) → 2 ≤ times d name seats)
          → (b : Bool) → (seat.conn == c) ≡ b → (t : Bool) → (seat.conn == k) ≡ t
          → (let o : Option Place = elim b [ true ↦ Some seat.place | false ↦ place_of c seats ] in o) ≡ Some (At d name)
          → (let o : Option Place = elim t [ true ↦ Some seat.place | false ↦ place_of k seats ] in o) ≡ Some (At d name)
          → 2 ≤ one_if (is_at d name seat.place) + times d name seats
      by rest true first true second is also =
          let same : (c == k) ≡ true = eq-eqb c k (sym (eqb-true seat.conn c first) ∙ eqb-true seat.conn k second) in
          let clash : true ≡ false = sym same ∙ other in absurd (cc)
      by rest true first false second is also = omega (arith, here (let same : seat.place ≡ At d name = cc in same), one_time k seats also)
      by rest false first true second is also = omega (arith, here (let same : seat.place ≡ At d name = cc in same), one_time c seats is)
      by rest false first false second is also = omega (arith, rest is also)

  -- ---- an event ----

  -- at most one of so many sits there, and none whose name isn't given yet
  pub record IsAlone (greatest count : ℕ) : Type 0 where
    pub once : count ≤ 1
    pub unknown : greatest < name → count ≡ 0

  fewer_alone : (before after count left : ℕ) → before ≤ after → left ≤ count → IsAlone before count → IsAlone after left
  fewer_alone before after count left grown fewer was = record { once = omega (arith, fewer, was.once); unknown = λ above. omega (arith, fewer, was.unknown (omega (arith, above, grown))) }

  module _ {Known : Type 0} (s : Devices Known) (events : ℕ → List Event) (seats : List Seat) (more : ℕ) (was : IsAlone (greatest_name (events d)) (times d name seats + more)) where
    stays_alone : (part : List Event) (after : ℕ) → after ≤ times d name seats + more → IsAlone (greatest_name (part ++ events d)) after
    stays_alone part after fewer = fewer_alone (greatest_name (events d)) (greatest_name (part ++ events d)) (times d name seats + more) after (grows part (events d)) fewer was

    chosen_alone : (choice : Option ℕ) (c : ℕ) (before piece : List ℕ) → IsAlone (greatest_name (on_choice choice before piece (names_in events) d ++ events d)) (times d name (chosen_if choice c (before ++ piece) (names_in events) seats) + more)
    chosen_alone None c before piece = stays_alone [] _ (omega (arith, times_placed d name c (Undecided (before ++ piece)) seats))
    chosen_alone (Some e) c before piece = by (d == e) refl (k == name) refl
      where
        k : ℕ
        k = names_in events e + 1

        other : is_at d name (At e k) ≡ false → times d name (placed c (At e k) seats) + more ≤ times d name seats + more
        other differs = omega (arith, times_placed d name c (At e k) seats, ap one_if differs)

        by : (b : Bool) → (d == e) ≡ b → (t : Bool) → (k == name) ≡ t → IsAlone (greatest_name (events_if b (arrival k before piece) ++ events d)) (times d name (placed c (At e k) seats) + more)
        by true here true new =
            let device : d ≡ e = eqb-true d e here in
            let called : k ≡ name = eqb-true k name new in
            let names : greatest_name (events e) + 1 ≡ name = called in
            let none : times d name seats + more ≡ 0 = was.unknown (omega (arith, ap (λ (f : ℕ). greatest_name (events f)) device, names)) in
            record {
              once = omega (arith, none, times_placed d name c (At e k) seats, one_at_most (is_at d name (At e k)));
              unknown = λ above. absurd (omega (arith, above, called, arrives_greatest k before piece (events d)));
            }
        by true here false differs = stays_alone (arrival k before piece) _ (other (ap (λ (b : Bool). (e == d) && b) differs ∙ and_none (e == d)))
        by false away t same = stays_alone [] _ (other (ap (λ (b : Bool). b && (k == name)) (differ d e away)))

    said_alone : (place : Option Place) (c : ℕ) (piece : List ℕ) → IsAlone (greatest_name (on_piece s place piece (names_in events) d ++ events d)) (times d name (said_by s place c piece (names_in events) seats) + more)
    said_alone None c piece = stays_alone [] _ (omega arith)
    said_alone (Some (Undecided before)) c piece = chosen_alone (choice_on s (before ++ piece)) c before piece
    said_alone (Some (At e k)) c piece = stays_alone (only_at e (one.Piece k piece ∷ []) d) _ (omega arith)

    event_alone : (event : ManyEvent) → IsAlone (greatest_name (parts s event seats (names_in events) d ++ events d)) (times d name (seated s event (names_in events) seats) + times d name (left event seats) + more)
    event_alone (Joined c) = stays_alone [] _ (omega (arith, times_joined d name (nat_lt (length seats) s.limit) c seats))
    event_alone (Piece c bytes) = let is = said_alone (place_of c seats) c bytes in record { once = omega (arith, is.once); unknown = λ above. omega (arith, is.unknown above) }
    event_alone (Left c) = stays_alone (on_leaving (place_of c seats) d) _ (omega (arith, times_left c seats))
    event_alone (Took c count) = stays_alone (on_taking (place_of c seats) count d) _ (omega arith)
    event_alone (ModemPiece e bytes) = stays_alone (only_at e (one.ModemPiece bytes ∷ []) d) _ (omega arith)
    event_alone (ModemGone e) = stays_alone (only_at e (one.ModemGone ∷ []) d) _ (omega arith)
    event_alone (ModemBack e) = stays_alone (only_at e (one.ModemBack ∷ []) d) _ (omega arith)
    event_alone (ModemTook e count) = stays_alone (only_at e (one.ModemTook count ∷ []) d) _ (omega arith)
    event_alone (Now time) = stays_alone (one.Now time ∷ []) _ (omega arith)

-- ---- all events ----

module _ {Known : Type 0} (s : Devices Known) where
  -- who is there, and who is gone
  abbrev pub everybody : List ManyEvent → List Seat
  everybody events = (many s events).seats ++ (many s events).gone

  pub alone : (d name : ℕ) (events : List ManyEvent) → IsAlone d name (greatest_name (own s d events)) (times d name (everybody events))
  unfolding many
  alone d name [] = record { once = omega arith; unknown = λ above. refl }
  alone d name (event ∷ events) =
      let m = many s events in
      let f = is_there_at s (own_after s event m) in
      let seats : List Seat = seats_before s event m in
      let behind : List Seat = m.gone ++ left event m.seats in
      let before = alone d name events in
      let counted = times_append d name m.seats m.gone in
      let was : IsAlone d name (greatest_name (m.own d)) (times d name m.seats + times d name m.gone) =
      record { once = omega (arith, before.once, counted); unknown = λ above. omega (arith, before.unknown above, counted) }
      in
      let now = event_alone d name s m.own m.seats (times d name m.gone) was event in
      let all : times d name (there f seats ++ (behind ++ ended f seats)) ≡ times d name seats + times d name (left event m.seats) + times d name m.gone =
      omega (arith, times_append d name (there f seats) (behind ++ ended f seats), times_append d name behind (ended f seats), times_append d name m.gone (left event m.seats), times_split d name f seats)
      in
      record { once = omega (arith, now.once, all); unknown = λ above. omega (arith, now.unknown above, all) }

  pub seats_alone : (d name : ℕ) (events : List ManyEvent) → times d name (many s events).seats ≤ 1
  seats_alone d name events = omega (arith, (alone d name events).once, times_append d name (many s events).seats (many s events).gone)

  -- two connections at one device have two names there
  pub apart_names : (c k : ℕ) (events : List ManyEvent) (d name other : ℕ) → (c == k) ≡ false → place_of c (everybody events) ≡ Some (At d name) → place_of k (everybody events) ≡ Some (At d other) → (name == other) ≡ false
  apart_names c k events d name other differs at too = by (name == other) refl
    where
      by : (b : Bool) → (name == other) ≡ b → b ≡ false
      by false is = refl
      by true same =
          let also : place_of k (everybody events) ≡ Some (At d name) = too ∙ ap (λ (n : ℕ). Some (At d n)) (sym (eqb-true name other same)) in
          absurd (omega (arith, two_times d name c k (everybody events) differs at also, (alone d name events).once))

  -- the next name at a device is nobody's yet
  pub next_name : (c : ℕ) (events : List ManyEvent) (d name : ℕ) → place_of c (everybody events) ≡ Some (At d name) → (greatest_name (own s d events) + 1 == name) ≡ false
  next_name c events d name at = by (greatest_name (own s d events) + 1 == name) refl
    where
      by : (b : Bool) → (greatest_name (own s d events) + 1 == name) ≡ b → b ≡ false
      by false is = refl
      by true same =
          let is : greatest_name (own s d events) + 1 ≡ name = eqb-true (greatest_name (own s d events) + 1) name same in
          absurd (omega (arith, one_time d name c (everybody events) at, (alone d name events).unknown (omega (arith, is))))
