-- Whoever is dropped was dropped by its device's proxy. Lists of events have the newest first.
use Rattle.std.proofs.Common.{◌≡◌, ℕ, ◌+◌, ◌<◌, ◌≤◌, Bool, true, false, not, cond, ◌&&◌, ◌==◌, nat_lt, List, [], ◌∷◌, ◌++◌, length, refl, ap, sym, ◌∙◌, subst, arith, Option, Some, None}
use Rattle.std.proofs.lemmas.Bool.{eqb-true}
use Rattle.std.proofs.lemmas.Bool.Decides.{nat_tests}
use Rattle.kit_bytes.proofs.Lists.{all_push, all_filter}
use Rattle.framing.specs.Framing.{IsKept, is_invalid}
use Rattle.framing.specs.Cutting.{cut, cut_from}
use Rattle.proxy_history.specs.Events.{Event}
use Rattle.proxy_history.specs.Events as one
use Rattle.proxy_history.specs.Streams.{Framing}
use Rattle.proxy_history.specs.Facts.{Fact, Request}
use Rattle.proxy_history.specs.Connections.{present, dropped, is_present, contains}
use Rattle.proxy_history.specs.Coming.{greatest_name}
use Rattle.proxy_history.specs.History.{history}
use Rattle.proxy_history.specs.Adding.{IsOrderly}
use Rattle.many_history.specs.Events.{ManyEvent, Joined, Piece, Left, Took, ModemPiece, ModemGone, ModemBack, ModemTook, Now}
use Rattle.many_history.specs.Devices.{Devices, choice_of_cut, choice_on}
use Rattle.many_history.specs.Many.{Place, Undecided, At, Seat, place_of, placed, without, in_pieces, says, arrival, events_if, only_at, on_choice, on_piece, on_leaving, on_taking, parts, joined_if, chosen_if, said_by, seated, refused_unless, there, ended, is_there_at, names_in, own_after, seats_before, many, own}
use Rattle.many_history.specs.Seated.{is_at, sits, IsOfDevice}
use Rattle.many_history.specs.Coming.{AreSound}
use Rattle.many_history.proofs.There.{seats_are_there}
use Rattle.many_history.proofs.Places.{placed_of}
use Rattle.many_dropped.specs.Law.{TakesInWhoChooses}
use Rattle.many_dropped.proofs.Open.{IsOpen}
use Rattle.many_dropped.proofs.One.{leaves, stays_by_others, dropped_or_there, arrived_or_dropped, arrival_is_anothers}
use Rattle.many_dropped.proofs.Sitting.{sits_there, was_ended, sat_joined, sat_placed, sat_without, one_if, one_at_most, times, some_times, times_joined, times_placed, times_without, times_less, times_there, Hold, all_placed, all_without}

pub and_none : (b : Bool) → (b && false) ≡ false
and_none true = refl
and_none false = refl

pub differ : (x y : ℕ) → (x == y) ≡ false → (y == x) ≡ false
differ x y other = grind (arith, nat_tests, other)

-- ---- the greatest name at a device ----

pub grows : (part events : List Event) → greatest_name events ≤ greatest_name (part ++ events)
grows [] events = omega arith
grows (one.Joined c ∷ part) events = omega (arith, grows part events)
grows (_ ∷ part) events = grows part events

said_grows : (k : ℕ) (pieces : List (List ℕ)) (said events : List Event) → greatest_name (said ++ events) ≤ greatest_name (says k pieces said ++ events)
unfolding says
said_grows k [] said events = omega arith
said_grows k (piece ∷ pieces) said events = said_grows k pieces (one.Piece k piece ∷ said) events

pub arrives_greatest : (k : ℕ) (before piece : List ℕ) (events : List Event) → k ≤ greatest_name (arrival k before piece ++ events)
arrives_greatest k before piece events = omega (arith, said_grows k (in_pieces before) (one.Joined k ∷ []) events)

module _ {Known : Type 0} (s : Devices Known) (Asks : ℕ → Request → List Fact → Type 0) (O : (d : ℕ) → IsOrderly (s.protocol d) (Asks d)) (T : TakesInWhoChooses s) where
  abbrev Is : ℕ → ℕ → List Event → Type 0
  Is d name events = is_present name (history (s.protocol d) events) ≡ true

  -- ---- choices ----

  abbrev OfOne : Option ℕ → Type 0
  OfOne None = Unit {0}
  OfOne (Some d) = d < s.count

  cut_chooses : (messages : List (List ℕ)) (rest : List ℕ) → OfOne (choice_of_cut s messages rest)
  cut_chooses [] rest = elim (is_invalid (s.size rest)) as (λ b. OfOne (cond b (Some 0) None)) [ true ↦ T.devices.some | false ↦ tt ]
  cut_chooses (m ∷ messages) rest = T.devices.choice m

  chosen_is_there : (bytes : List ℕ) (d : ℕ) → choice_on s bytes ≡ Some d → d < s.count
  chosen_is_there bytes d is = subst OfOne is (cut_chooses (cut s.size bytes).messages (cut s.size bytes).rest)

  none_is_open : (messages : List (List ℕ)) (rest : List ℕ) → choice_of_cut s messages rest ≡ None → (messages ≡ []) × (is_invalid (s.size rest) ≡ false)
  none_is_open (m ∷ messages) rest none = absurd (cc)
  none_is_open [] rest none = by (is_invalid (s.size rest)) refl none
    where
      by : (b : Bool) → is_invalid (s.size rest) ≡ b → (let o : Option ℕ = cond b (Some 0) None in o) ≡ None → (let l : List (List ℕ) = [] in l ≡ []) × (is_invalid (s.size rest) ≡ false)
      by true is e = absurd (cc)
      by false is e = (refl, is)

  opens : (bytes : List ℕ) → choice_on s bytes ≡ None → IsOpen s.size bytes
  opens bytes none = (let both = none_is_open (cut s.size bytes).messages (cut s.size bytes).rest none in record { none = both.0; good = both.1 })

  -- ---- an event ----

  module _ (events : ℕ → List Event) (seats : List Seat) (were : (d name : ℕ) → sits d name seats ≡ true → Is d name (events d)) where
    abbrev Drops : (ℕ → List Event) → List Seat → Type 0
    Drops part after = (d name : ℕ) → sits d name after ≡ true → is_present name (history (s.protocol d) (part d ++ events d)) ≡ false → contains name (dropped (history (s.protocol d) (part d ++ events d))) ≡ true

    still_there : (d name : ℕ) {X : Type 0} → sits d name seats ≡ true → is_present name (history (s.protocol d) (events d)) ≡ false → X
    still_there d name at gone = absurd (let clash : true ≡ false = sym (were d name at) ∙ gone in cc)

    nothing_drops : Drops (λ d. []) seats
    nothing_drops d name at gone = still_there d name at gone

    one_drops : (e : ℕ) (its : Event) → ((name : ℕ) → leaves name its ≡ false) → Drops (only_at e (its ∷ [])) seats
    one_drops e its stays d name at gone = by (d == e) gone
      where
        by : (b : Bool) → is_present name (history (s.protocol d) (events_if b (its ∷ []) ++ events d)) ≡ false → contains name (dropped (history (s.protocol d) (events_if b (its ∷ []) ++ events d))) ≡ true
        by true gone = dropped_or_there (s.protocol d) (Asks d) (O d) name its (events d) (stays name) (were d name at) gone
        by false gone = still_there d name at gone

    module _ (c : ℕ) (before piece : List ℕ) (at_none : place_of c seats ≡ Some (Undecided before)) (unchosen : choice_on s before ≡ None) (room : (d : ℕ) → d < s.count → length (present (history (s.protocol d) (events d))) < (s.protocol d).limits.connections) where
      chosen_drops : (choice : Option ℕ) → choice_on s (before ++ piece) ≡ choice → Drops (on_choice choice before piece (names_in events)) (chosen_if choice c (before ++ piece) (names_in events) seats)
      chosen_drops None is d name at gone = still_there d name (sat_placed d name c (Undecided (before ++ piece)) seats refl at) gone
      chosen_drops (Some e) is d name at gone = by (d == e) refl gone
        where
          k : ℕ
          k = names_in events e + 1

          sat : is_at d name (At e k) ≡ false → sits d name seats ≡ true
          sat other = sat_placed d name c (At e k) seats other at

          newcomer : (f n : ℕ) → f ≡ e → n ≡ k → is_present n (history (s.protocol f) (arrival k before piece ++ events f)) ≡ false → contains n (dropped (history (s.protocol f) (arrival k before piece ++ events f))) ≡ true
          newcomer f n device same =
              subst (λ (m : ℕ). is_present m (history (s.protocol f) (arrival k before piece ++ events f)) ≡ false → contains m (dropped (history (s.protocol f) (arrival k before piece ++ events f))) ≡ true) (sym same)
              (arrived_or_dropped (s.protocol f) (Asks f) (O f) k (subst (λ (size : Framing). (front more : List ℕ) → IsKept (size front) (size (front ++ more))) (sym (T.size f)) T.kept) before piece (events f)
              (room f (subst (λ (m : ℕ). m < s.count) (sym device) (chosen_is_there (before ++ piece) e is))) (subst (λ (size : Framing). IsOpen size before) (sym (T.size f)) (opens before unchosen)))

          by_name : (d == e) ≡ true → (b : Bool) → (k == name) ≡ b → is_present name (history (s.protocol d) (arrival k before piece ++ events d)) ≡ false → contains name (dropped (history (s.protocol d) (arrival k before piece ++ events d))) ≡ true
          by_name here true new gone = newcomer d name (eqb-true d e here) (sym (eqb-true k name new)) gone
          by_name here false other gone =
              absurd
              (let there = stays_by_others (s.protocol d) (Asks d) (O d) name (arrival k before piece) (events d) (arrival_is_anothers name k before piece other) (were d name (sat (ap (λ (b : Bool). (e == d) && b) other ∙ and_none (e == d)))) in
              let clash : true ≡ false = sym there ∙ gone in cc)

          by : (b : Bool) → (d == e) ≡ b → is_present name (history (s.protocol d) (events_if b (arrival k before piece) ++ events d)) ≡ false → contains name (dropped (history (s.protocol d) (events_if b (arrival k before piece) ++ events d))) ≡ true
          by true here gone = by_name here (k == name) refl gone
          by false away gone = still_there d name (sat (ap (λ (b : Bool). b && (k == name)) (differ d e away))) gone

    module _ (unchosen : (c : ℕ) (bytes : List ℕ) → place_of c seats ≡ Some (Undecided bytes) → choice_on s bytes ≡ None) (room : (c : ℕ) (bytes : List ℕ) (d : ℕ) → d < s.count → place_of c seats ≡ Some (Undecided bytes) → length (present (history (s.protocol d) (events d))) < (s.protocol d).limits.connections) (once : (d name : ℕ) → times d name seats ≤ 1) where
      said_drops : (place : Option Place) (c : ℕ) (piece : List ℕ) → place_of c seats ≡ place → Drops (on_piece s place piece (names_in events)) (said_by s place c piece (names_in events) seats)
      said_drops None c piece at = nothing_drops
      said_drops (Some (Undecided before)) c piece at = chosen_drops c before piece at (unchosen c before at) (λ d of. room c before d of at) (choice_on s (before ++ piece)) refl
      said_drops (Some (At e k)) c piece at = one_drops e (one.Piece k piece) (λ name. refl)

      left_drops : (place : Option Place) (c : ℕ) → place_of c seats ≡ place → Drops (on_leaving place) (without c seats)
      left_drops None c at d name sat gone = still_there d name (sat_without d name c seats sat) gone
      left_drops (Some (Undecided before)) c at d name sat gone = still_there d name (sat_without d name c seats sat) gone
      left_drops (Some (At e k)) c at d name sat gone = by (d == e) refl (k == name) refl gone
        where
          sat_before : sits d name seats ≡ true
          sat_before = sat_without d name c seats sat

          only_one : (f n : ℕ) → d ≡ f → name ≡ n → place_of c seats ≡ Some (At f n) → ⊥
          only_one f n device same placed =
              let here : place_of c seats ≡ Some (At d name) = placed ∙ ap (λ (m : ℕ). Some (At m n)) (sym device) ∙ ap (λ (m : ℕ). Some (At d m)) (sym same) in
              omega (arith, times_less d name c seats here, some_times d name (without c seats) sat, once d name)

          by : (b : Bool) → (d == e) ≡ b → (t : Bool) → (k == name) ≡ t → is_present name (history (s.protocol d) (events_if b (one.Left k ∷ []) ++ events d)) ≡ false → contains name (dropped (history (s.protocol d) (events_if b (one.Left k ∷ []) ++ events d))) ≡ true
          by true here true same gone = absurd (only_one e k (eqb-true d e here) (sym (eqb-true k name same)) at)
          by true here false other gone = dropped_or_there (s.protocol d) (Asks d) (O d) name (one.Left k) (events d) other (were d name sat_before) gone
          by false away t same gone = still_there d name sat_before gone

      taken_drops : (place : Option Place) (count : ℕ) → Drops (on_taking place count) seats
      taken_drops None count = nothing_drops
      taken_drops (Some (Undecided before)) count = nothing_drops
      taken_drops (Some (At e k)) count = one_drops e (one.Took k count) (λ name. refl)

      event_drops : (event : ManyEvent) → Drops (parts s event seats (names_in events)) (seated s event (names_in events) seats)
      event_drops (Joined c) d name sat gone = still_there d name (sat_joined d name (nat_lt (length seats) s.limit) c seats sat) gone
      event_drops (Piece c bytes) d name sat gone = said_drops (place_of c seats) c bytes refl d name sat gone
      event_drops (Left c) d name sat gone = left_drops (place_of c seats) c refl d name sat gone
      event_drops (Took c count) d name sat gone = taken_drops (place_of c seats) count d name sat gone
      event_drops (ModemPiece e bytes) d name sat gone = one_drops e (one.ModemPiece bytes) (λ n. refl) d name sat gone
      event_drops (ModemGone e) d name sat gone = one_drops e one.ModemGone (λ n. refl) d name sat gone
      event_drops (ModemBack e) d name sat gone = one_drops e one.ModemBack (λ n. refl) d name sat gone
      event_drops (ModemTook e count) d name sat gone = one_drops e (one.ModemTook count) (λ n. refl) d name sat gone
      event_drops (Now time) d name sat gone = dropped_or_there (s.protocol d) (Asks d) (O d) name (one.Now time) (events d) refl (were d name sat) gone

  -- ---- what holds of each place ----

  module _ (P : Place → Type 0) (begins : P (Undecided [])) (goes_on : (stream : List ℕ) → choice_on s stream ≡ None → P (Undecided stream)) (chooses : (d name : ℕ) → d < s.count → P (At d name)) where
    hold_chosen : (choice : Option ℕ) (c : ℕ) (stream : List ℕ) (names : ℕ → ℕ) (seats : List Seat) → choice_on s stream ≡ choice → Hold P seats → Hold P (chosen_if choice c stream names seats)
    hold_chosen None c stream names seats is all = all_placed P c (Undecided stream) seats (goes_on stream is) all
    hold_chosen (Some d) c stream names seats is all = all_placed P c (At d (names d + 1)) seats (chooses d (names d + 1) (chosen_is_there stream d is)) all

    hold_said : (place : Option Place) (c : ℕ) (piece : List ℕ) (names : ℕ → ℕ) (seats : List Seat) → Hold P seats → Hold P (said_by s place c piece names seats)
    hold_said None c piece names seats all = all
    hold_said (Some (Undecided before)) c piece names seats all = hold_chosen (choice_on s (before ++ piece)) c (before ++ piece) names seats refl all
    hold_said (Some (At d name)) c piece names seats all = all

    hold_joined : (b : Bool) (c : ℕ) (seats : List Seat) → Hold P seats → Hold P (joined_if b c seats)
    hold_joined true c seats all = all_push (λ (seat : Seat). P seat.place) seats (record { conn = c; place = Undecided [] }) all begins
    hold_joined false c seats all = all

    hold_seated : (event : ManyEvent) (names : ℕ → ℕ) (seats : List Seat) → Hold P seats → Hold P (seated s event names seats)
    hold_seated (Joined c) names seats all = hold_joined (nat_lt (length seats) s.limit) c seats all
    hold_seated (Piece c bytes) names seats all = hold_said (place_of c seats) c bytes names seats all
    hold_seated (Left c) names seats all = all_without P c seats all
    hold_seated _ names seats all = all

    hold_seats : (events : List ManyEvent) → Hold P (many s events).seats
    unfolding many
    hold_seats [] = tt
    hold_seats (event ∷ events) =
        let m = many s events in
        all_filter (λ (seat : Seat). P seat.place) (λ (seat : Seat). is_there_at s (own_after s event m) seat.place) (seats_before s event m) (hold_seated event (names_in m.own) m.seats (hold_seats events))

    hold_ended : (event : ManyEvent) (events : List ManyEvent) → (let m = many s events in Hold P (ended (is_there_at s (own_after s event m)) (seats_before s event m)))
    hold_ended event events =
        let m = many s events in
        all_filter (λ (seat : Seat). P seat.place) (λ (seat : Seat). not (is_there_at s (own_after s event m) seat.place)) (seats_before s event m) (hold_seated event (names_in m.own) m.seats (hold_seats events))

    hold_dropped : (events : List ManyEvent) → Hold P (many s events).dropped
    unfolding many
    hold_dropped [] = tt
    hold_dropped (Joined c ∷ events) = by (nat_lt (length (many s events).seats) s.limit)
      where
        by : (b : Bool) → (let m = many s events in Hold P (refused_unless b c ++ ended (is_there_at s (own_after s (Joined c) m)) (seats_before s (Joined c) m)))
        by true = hold_ended (Joined c) events
        by false = (begins, hold_ended (Joined c) events)
    hold_dropped (Piece c bytes ∷ events) = hold_ended (Piece c bytes) events
    hold_dropped (Left c ∷ events) = hold_ended (Left c) events
    hold_dropped (Took c count ∷ events) = hold_ended (Took c count) events
    hold_dropped (ModemPiece d bytes ∷ events) = hold_ended (ModemPiece d bytes) events
    hold_dropped (ModemGone d ∷ events) = hold_ended (ModemGone d) events
    hold_dropped (ModemBack d ∷ events) = hold_ended (ModemBack d) events
    hold_dropped (ModemTook d count ∷ events) = hold_ended (ModemTook d count) events
    hold_dropped (Now time ∷ events) = hold_ended (Now time) events

  abbrev IsUnchosen : Place → Type 0
  IsUnchosen (Undecided bytes) = choice_on s bytes ≡ None
  IsUnchosen (At d name) = Unit {0}

  nothing_said : choice_on s [] ≡ None
  unfolding cut_from
  nothing_said = ap (λ (b : Bool). let o : Option ℕ = cond b (Some 0) None in o) T.begins

  unchosen_seats : (events : List ManyEvent) → Hold IsUnchosen (many s events).seats
  unchosen_seats events = hold_seats IsUnchosen nothing_said (λ stream none. none) (λ d name there. tt) events

  -- whoever was dropped was at a device that there is
  pub dropped_of : (events : List ManyEvent) (c d name : ℕ) → place_of c (many s events).dropped ≡ Some (At d name) → d < s.count
  dropped_of events c d name at = placed_of (IsOfDevice s.count) c (many s events).dropped (At d name) (hold_dropped (IsOfDevice s.count) tt (λ stream none. tt) (λ e n there. there) events) at

  -- ---- no two have one place ----

  module _ (d name : ℕ) where
    record IsAlone (events : List Event) (seats : List Seat) : Type 0 where
      once : times d name seats ≤ 1
      unknown : greatest_name events < name → times d name seats ≡ 0

    fewer_alone : (before after : List Event) (seats left : List Seat) → greatest_name before ≤ greatest_name after → times d name left ≤ times d name seats → IsAlone before seats → IsAlone after left
    fewer_alone before after seats left grown fewer was = record { once = omega (arith, fewer, was.once); unknown = λ above. omega (arith, fewer, was.unknown (omega (arith, above, grown))) }

    module _ (events : ℕ → List Event) (seats : List Seat) (was : IsAlone (events d) seats) where
      stays_alone : (part left : List Event) (after : List Seat) → left ≡ part ++ events d → times d name after ≤ times d name seats → IsAlone left after
      stays_alone part left after is fewer = fewer_alone (events d) left seats after (omega (arith, ap greatest_name is, grows part (events d))) fewer was

      chosen_alone : (choice : Option ℕ) (c : ℕ) (before piece : List ℕ) → IsAlone (on_choice choice before piece (names_in events) d ++ events d) (chosen_if choice c (before ++ piece) (names_in events) seats)
      chosen_alone None c before piece = stays_alone [] _ _ refl (omega (arith, times_placed d name c (Undecided (before ++ piece)) seats))
      chosen_alone (Some e) c before piece = by (d == e) refl (k == name) refl
        where
          k : ℕ
          k = names_in events e + 1

          after : List Seat
          after = placed c (At e k) seats

          other : is_at d name (At e k) ≡ false → times d name after ≤ times d name seats
          other differs = omega (arith, times_placed d name c (At e k) seats, ap one_if differs)

          by : (b : Bool) → (d == e) ≡ b → (t : Bool) → (k == name) ≡ t → IsAlone (events_if b (arrival k before piece) ++ events d) after
          by true here true new =
              let device : d ≡ e = eqb-true d e here in
              let names : greatest_name (events e) + 1 ≡ name = eqb-true k name new in
              let none : times d name seats ≡ 0 = was.unknown (omega (arith, ap (λ (f : ℕ). greatest_name (events f)) device, names)) in
              record {
                once = omega (arith, none, times_placed d name c (At e k) seats, one_at_most (is_at d name (At e k)));
                unknown = λ above. absurd (omega (arith, above, names, arrives_greatest (greatest_name (events e) + 1) before piece (events d)));
              }
          by true here false differs = stays_alone (arrival k before piece) _ after refl (other (ap (λ (b : Bool). (e == d) && b) differs ∙ and_none (e == d)))
          by false away t same = stays_alone [] _ after refl (other (ap (λ (b : Bool). b && (k == name)) (differ d e away)))

      said_alone : (place : Option Place) (c : ℕ) (piece : List ℕ) → IsAlone (on_piece s place piece (names_in events) d ++ events d) (said_by s place c piece (names_in events) seats)
      said_alone None c piece = stays_alone [] _ seats refl (omega arith)
      said_alone (Some (Undecided before)) c piece = chosen_alone (choice_on s (before ++ piece)) c before piece
      said_alone (Some (At e k)) c piece = stays_alone (only_at e (one.Piece k piece ∷ []) d) _ seats refl (omega arith)

      event_alone : (event : ManyEvent) → IsAlone (parts s event seats (names_in events) d ++ events d) (seated s event (names_in events) seats)
      event_alone (Joined c) = stays_alone [] _ (joined_if (nat_lt (length seats) s.limit) c seats) refl (omega (arith, times_joined d name (nat_lt (length seats) s.limit) c seats))
      event_alone (Piece c bytes) = said_alone (place_of c seats) c bytes
      event_alone (Left c) = stays_alone (on_leaving (place_of c seats) d) _ (without c seats) refl (omega (arith, times_without d name c seats))
      event_alone (Took c count) = stays_alone (on_taking (place_of c seats) count d) _ seats refl (omega arith)
      event_alone (ModemPiece e bytes) = stays_alone (only_at e (one.ModemPiece bytes ∷ []) d) _ seats refl (omega arith)
      event_alone (ModemGone e) = stays_alone (only_at e (one.ModemGone ∷ []) d) _ seats refl (omega arith)
      event_alone (ModemBack e) = stays_alone (only_at e (one.ModemBack ∷ []) d) _ seats refl (omega arith)
      event_alone (ModemTook e count) = stays_alone (only_at e (one.ModemTook count ∷ []) d) _ seats refl (omega arith)
      event_alone (Now time) = stays_alone (one.Now time ∷ []) _ seats refl (omega arith)

    alone : (events : List ManyEvent) → IsAlone (own s d events) (many s events).seats
    unfolding many
    alone [] = record { once = omega arith; unknown = λ above. refl }
    alone (event ∷ events) =
        let m = many s events in
        fewer_alone (own_after s event m d) (own_after s event m d) (seats_before s event m) (there (is_there_at s (own_after s event m)) (seats_before s event m)) (omega arith)
        (times_there d name (is_there_at s (own_after s event m)) (seats_before s event m)) (event_alone m.own m.seats (alone events) event)

  -- ---- all events ----

  sitting_are_there : (events : List ManyEvent) (d name : ℕ) → sits d name (many s events).seats ≡ true → Is d name (own s d events)
  sitting_are_there events d name sat = sits_there d name (is_there_at s (many s events).own) (many s events).seats (seats_are_there s events) sat

  ended_there : (event : ManyEvent) (events : List ManyEvent) (c d name : ℕ) → AreSound s events → (let m = many s events in place_of c (ended (is_there_at s (own_after s event m)) (seats_before s event m)) ≡ Some (At d name))
      → contains name (dropped (history (s.protocol d) (own_after s event (many s events) d))) ≡ true
  ended_there event events c d name sound at =
      let m = many s events in
      let was = was_ended d name (is_there_at s (own_after s event m)) c (seats_before s event m) at in
      event_drops m.own m.seats (sitting_are_there events) (λ k bytes here. placed_of IsUnchosen k m.seats (Undecided bytes) (unchosen_seats events) here) (λ k bytes e of here. T.room events k bytes e sound of here) (λ e n. (alone e n events).once)
      event d name was.sat was.gone

  refused_there : (b : Bool) (k : ℕ) (rest : List Seat) (c d name : ℕ) → place_of c (refused_unless b k ++ rest) ≡ Some (At d name) → place_of c rest ≡ Some (At d name)
  unfolding place_of
  refused_there true k rest c d name at = at
  refused_there false k rest c d name at = by (k == c) at
    where
      by : (b : Bool) → (let o : Option Place = elim b [ true ↦ Some (Undecided []) | false ↦ place_of c rest ] in o) ≡ Some (At d name) → place_of c rest ≡ Some (At d name)
      by true e = absurd (let clash : Undecided [] ≡ At d name = cc in cc)
      by false e = e

  pub dropped_there : (events : List ManyEvent) (c d name : ℕ) → AreSound s events → place_of c (many s events).dropped ≡ Some (At d name) → contains name (dropped (history (s.protocol d) (own s d events))) ≡ true
  unfolding many place_of
  dropped_there [] c d name sound at = absurd (cc)
  dropped_there (Joined k ∷ events) c d name sound at = (let m = many s events in ended_there (Joined k) events c d name sound.1 (refused_there (nat_lt (length m.seats) s.limit) k (ended (is_there_at s (own_after s (Joined k) m)) (seats_before s (Joined k) m)) c d name at))
  dropped_there (Piece k bytes ∷ events) c d name sound at = ended_there (Piece k bytes) events c d name sound.1 at
  dropped_there (Left k ∷ events) c d name sound at = ended_there (Left k) events c d name sound.1 at
  dropped_there (Took k count ∷ events) c d name sound at = ended_there (Took k count) events c d name sound.1 at
  dropped_there (ModemPiece e bytes ∷ events) c d name sound at = ended_there (ModemPiece e bytes) events c d name sound.1 at
  dropped_there (ModemGone e ∷ events) c d name sound at = ended_there (ModemGone e) events c d name sound.1 at
  dropped_there (ModemBack e ∷ events) c d name sound at = ended_there (ModemBack e) events c d name sound.1 at
  dropped_there (ModemTook e count ∷ events) c d name sound at = ended_there (ModemTook e count) events c d name sound.1 at
  dropped_there (Now time ∷ events) c d name sound at = ended_there (Now time) events c d name sound.1 at
