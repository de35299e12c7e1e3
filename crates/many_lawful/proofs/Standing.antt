-- Where a connection of a proxy of several devices stands behind an event, and what bytes it has. Lists of events have the newest first.
use Rattle.std.proofs.Common.{◌≡◌, ℕ, ◌+◌, Bool, true, false, ◌&&◌, ◌==◌, nat_lt, List, [], ◌∷◌, ◌++◌, length, refl, ap, sym, ◌∙◌, subst, arith, append-nil, Option, Some, None}
use Rattle.std.proofs.lemmas.Bool.{eqb-true, eq-eqb}
use Rattle.kit_bytes.proofs.Lists.{all_weaker}
use Rattle.proxy_history.specs.Events.{Event}
use Rattle.proxy_history.specs.Events as one
use Rattle.proxy_history.specs.Facts.{Fact, Request}
use Rattle.proxy_history.specs.Connections.{dropped, is_present}
use Rattle.proxy_history.specs.Rendering.{Rendering, empty}
use Rattle.proxy_history.specs.History.{history}
use Rattle.proxy_history.specs.History as one_history
use Rattle.proxy_history.specs.Adding.{IsOrderly}
use Rattle.proxy_history.specs.Proxy.{IsLawful, LeavesBytesOf}
use Rattle.proxy_history.specs.Lawful.{proxy_of}
use Rattle.many_history.specs.Events.{ManyEvent, Joined, Piece, Left, Took, ModemPiece, ModemGone, ModemBack, ModemTook, Now}
use Rattle.many_history.specs.Devices.{Devices, choice_on}
use Rattle.many_history.specs.Many.{Place, Undecided, At, Seat, place_of, placed, without, seat_of, arrival, says, in_pieces, events_if, only_at, on_choice, on_piece, on_leaving, on_taking, parts, joined_if, chosen_if, said_by, left, there, ended, is_there_at, names_in, own_after, seats_before, many, own}
use Rattle.many_history.specs.Queues.{text_at, text_for}
use Rattle.many_history.specs.Seated.{is_at}
use Rattle.many_history.specs.Coming.{NamesRise}
use Rattle.many_history.proofs.There.{AreThere, place_of_front, placed_other, without_other, seats_are_there}
use Rattle.many_history.proofs.Once.{stands_once, step_times, seen}
use Rattle.many_history.proofs.Once as conns
use Rattle.many_dropped.proofs.Dropping.{differ}
use Rattle.many_dropped.proofs.One.{leaves}
use Rattle.many_dropped.proofs.Sitting.{one_if, times, times_less, all_without}
use Rattle.many_io.specs.Record.{without_device}
use Rattle.many_lawful.proofs.Seats.{either, either_none, place_of_append, place_of_both, other_nowhere, placed_here, moved, all_there, none_ended, stands_where}
use Rattle.many_lawful.proofs.Alone.{everybody, apart_names, next_name, seats_alone}
use Rattle.many_lawful.proofs.Texts.{Grows, grows_not, grows_all, LeaveBytesOf, grows_by_all, wait_arriving, stays_by}

-- one that isn't at this device
none_here : (b : Bool) (events more : List Event) → b ≡ false → events_if b events ++ more ≡ more
none_here b events more is = ap (λ (t : Bool). events_if t events ++ more) is

pub only_here : (d : ℕ) (part events : List Event) → only_at d part d ++ events ≡ part ++ events
only_here d part events = ap (λ (b : Bool). events_if b part ++ events) (eq-eqb d d refl)

pub only_elsewhere : (d e : ℕ) (part events : List Event) → (d == e) ≡ false → only_at d part e ++ events ≡ events
only_elsewhere d e part events other = none_here (e == d) part events (differ d e other)

module _ {Known : Type 0} (s : Devices Known) where
  -- ---- who stays ----

  -- all stay, and nobody goes by itself: everybody is as before
  pub quiet : (event : ManyEvent) (events : List ManyEvent) → (let m = many s events in seats_before s event m ≡ m.seats) → left event (many s events).seats ≡ [] → (let m = many s events in AreThere (is_there_at s (own_after s event m)) m.seats)
      → (let m = many s events in let n = many s (event ∷ events) in (n.seats ≡ m.seats) × (n.gone ≡ m.gone))
  unfolding many
  quiet event events same none all =
      let m = many s events in
      let f = is_there_at s (own_after s event m) in (
        ap (λ (l : List Seat). there f l) same ∙ all_there f m.seats all,
        ap (λ (l : List Seat). m.gone ++ left event m.seats ++ ended f l) same
            ∙ ap (λ (l : List Seat). m.gone ++ left event m.seats ++ l) (none_ended f m.seats all)
            ∙ append-nil (m.gone ++ left event m.seats)
            ∙ ap (λ (l : List Seat). m.gone ++ l) none
            ∙ append-nil m.gone,
      )

  module _ (Asks : ℕ → Request → List Fact → Type 0) (O : (d : ℕ) → IsOrderly (s.protocol d) (Asks d)) (events : List ManyEvent) where
    abbrev IsThere : Place → Type 0
    IsThere place = is_there_at s (many s events).own place ≡ true

    -- one event at one device, by which nobody is dropped there
    one_stays : (e : ℕ) (event : Event) → dropped (history (s.protocol e) (event ∷ own s e events)) ≡ [] → (d name : ℕ) → ((d == e) ≡ true → leaves name event ≡ false) → IsThere (At d name) → is_present name (history (s.protocol d) (only_at e (event ∷ []) d ++ own s d events)) ≡ true
    one_stays e event none d name other is = by (d == e) refl
      where
        by : (b : Bool) → (d == e) ≡ b → is_present name (history (s.protocol d) (events_if b (event ∷ []) ++ own s d events)) ≡ true
        by true here =
            let gone : dropped (history (s.protocol d) (event ∷ own s d events)) ≡ [] = subst (λ (k : ℕ). dropped (history (s.protocol k) (event ∷ own s k events)) ≡ []) (sym (eqb-true d e here)) none in
            stays_by (s.protocol d) (Asks d) (O d) name event (own s d events) (other here) gone is
        by false away = is

    pub modem_stays : (e : ℕ) (event : Event) → ((name : ℕ) → leaves name event ≡ false) → dropped (history (s.protocol e) (event ∷ own s e events)) ≡ [] → AreThere (is_there_at s (λ d. only_at e (event ∷ []) d ++ own s d events)) (many s events).seats
    modem_stays e event nobody none = all_weaker (λ (seat : Seat). is_there_at s (many s events).own seat.place ≡ true) (λ (seat : Seat). is_there_at s (λ d. only_at e (event ∷ []) d ++ own s d events) seat.place ≡ true) (λ seat is. by seat.place is) (many s events).seats (seats_are_there s events)
      where
        by : (place : Place) → IsThere place → is_there_at s (λ d. only_at e (event ∷ []) d ++ own s d events) place ≡ true
        by (Undecided bytes) is = refl
        by (At d name) is = one_stays e event none d name (λ here. nobody name) is

    -- a client's socket takes bytes
    pub taker_stays : (place : Option Place) (count : ℕ) → ((e name : ℕ) → dropped (history (s.protocol e) (one.Took name count ∷ own s e events)) ≡ []) → AreThere (is_there_at s (λ d. on_taking place count d ++ own s d events)) (many s events).seats
    taker_stays None count none = seats_are_there s events
    taker_stays (Some (Undecided bytes)) count none = seats_are_there s events
    taker_stays (Some (At e name)) count none = modem_stays e (one.Took name count) (λ n. refl) (none e name)

    -- whoever is at none of these places stays where another goes
    others_stay : (e name : ℕ) (seats : List Seat) → dropped (history (s.protocol e) (one.Left name ∷ own s e events)) ≡ [] → times e name seats ≡ 0 → AreThere (is_there_at s (many s events).own) seats → AreThere (is_there_at s (λ d. only_at e (one.Left name ∷ []) d ++ own s d events)) seats
    others_stay e name [] none zero all = tt
    others_stay e name (seat ∷ seats) none zero all = (by seat.place (away (is_at e name seat.place) refl) all.0, others_stay e name seats none (omega (arith, zero)) all.1)
      where
        away : (b : Bool) → is_at e name seat.place ≡ b → is_at e name seat.place ≡ false
        away false is = is
        away true is = absurd (omega (arith, zero, ap one_if is))

        by : (place : Place) → is_at e name place ≡ false → IsThere place → is_there_at s (λ d. only_at e (one.Left name ∷ []) d ++ own s d events) place ≡ true
        by (Undecided bytes) other is = refl
        by (At d k) other is = one_stays e (one.Left name) none d k (λ here. differ k name (sym (ap (λ (b : Bool). b && (k == name)) here) ∙ other)) is

    pub leaver_goes : (c : ℕ) (place : Option Place) → place_of c (many s events).seats ≡ place → ((e name : ℕ) → dropped (history (s.protocol e) (one.Left name ∷ own s e events)) ≡ []) → AreThere (is_there_at s (λ d. on_leaving place d ++ own s d events)) (without c (many s events).seats)
    leaver_goes c None at none = all_without (λ p. is_there_at s (many s events).own p ≡ true) c (many s events).seats (seats_are_there s events)
    leaver_goes c (Some (Undecided bytes)) at none = all_without (λ p. is_there_at s (many s events).own p ≡ true) c (many s events).seats (seats_are_there s events)
    leaver_goes c (Some (At e name)) at none =
        let seats : List Seat = (many s events).seats in
        let one_less = times_less e name c seats at in
        others_stay e name (without c seats) (none e name) (omega (arith, one_less, seats_alone s e name events)) (all_without (λ p. is_there_at s (many s events).own p ≡ true) c seats (seats_are_there s events))

  -- ---- where one stands ----

  module _ (c : ℕ) (event : ManyEvent) (events : List ManyEvent) (rise : NamesRise (event ∷ events)) where
    -- it stands where it stood before some of those were ended
    pub stands : place_of c (everybody s (event ∷ events)) ≡ (let m = many s events in place_of c (seats_before s event m ++ (m.gone ++ left event m.seats)))
    unfolding many
    stands =
        let m = many s events in
        stands_where (is_there_at s (own_after s event m)) c (seats_before s event m) (m.gone ++ left event m.seats)
        (omega (arith, (stands_once s c (event ∷ events) rise).once, step_times s c event events, conns.times_append c m.gone (left event m.seats)))

    stands_same : (let m = many s events in place_of c (seats_before s event m) ≡ place_of c m.seats) → (let m = many s events in place_of c (m.gone ++ left event m.seats) ≡ place_of c m.gone) → place_of c (everybody s (event ∷ events)) ≡ place_of c (everybody s events)
    stands_same first second = let m = many s events in stands ∙ place_of_both c (seats_before s event m) (m.gone ++ left event m.seats) m.seats m.gone first second

  -- another joins or says something
  joined_other : (c k : ℕ) (b : Bool) (seats : List Seat) → (k == c) ≡ false → place_of c (joined_if b k seats) ≡ place_of c seats
  joined_other c k false seats differs = refl
  joined_other c k true seats differs = place_of_append c seats (seat_of k (Some (Undecided []))) ∙ ap (either (place_of c seats)) (other_nowhere c k (Some (Undecided [])) differs) ∙ either_none (place_of c seats)

  said_other : (c k : ℕ) (place : Option Place) (piece : List ℕ) (names : ℕ → ℕ) (seats : List Seat) → (k == c) ≡ false → place_of c (said_by s place k piece names seats) ≡ place_of c seats
  said_other c k None piece names seats differs = refl
  said_other c k (Some (At e name)) piece names seats differs = refl
  said_other c k (Some (Undecided before)) piece names seats differs = by (choice_on s (before ++ piece))
    where
      by : (choice : Option ℕ) → place_of c (chosen_if choice k (before ++ piece) names seats) ≡ place_of c seats
      by None = placed_other c k (Undecided (before ++ piece)) seats differs
      by (Some e) = placed_other c k (At e (names e + 1)) seats differs

  -- ---- the bytes of one ----

  module _ (own_bytes : ℕ → List Fact → ℕ) (R : (d : ℕ) → IsLawful (proxy_of (s.protocol d) (own_bytes d))) (c : ℕ) (events : List ManyEvent) where
    abbrev IsAt : Option Place → Type 0
    IsAt place = place_of c (everybody s events) ≡ place

    -- of what its device meets nothing is its joining, and by nothing its socket takes bytes
    module _ (d name : ℕ) (at : IsAt (Some (At d name))) where
      only_leaves : (b : Bool) (part : List Event) → LeaveBytesOf name part → LeaveBytesOf name (events_if b part)
      only_leaves true part all = all
      only_leaves false part all = tt

      says_leaves : (k : ℕ) (pieces : List (List ℕ)) (said : List Event) → LeaveBytesOf name said → LeaveBytesOf name (says k pieces said)
      unfolding says
      says_leaves k [] said all = all
      says_leaves k (piece ∷ pieces) said all = says_leaves k pieces (one.Piece k piece ∷ said) (tt, all)

      chosen_leaves : (choice : Option ℕ) (before piece : List ℕ) → LeaveBytesOf name (on_choice choice before piece (names_in (many s events).own) d)
      chosen_leaves None before piece = tt
      chosen_leaves (Some e) before piece = by (d == e) refl
        where
          k : ℕ
          k = names_in (many s events).own e + 1

          by : (b : Bool) → (d == e) ≡ b → LeaveBytesOf name (events_if b (arrival k before piece))
          by true here =
              let other : (k == name) ≡ false = subst (λ (n : ℕ). (names_in (many s events).own n + 1 == name) ≡ false) (eqb-true d e here) (next_name s c events d name at) in
              (tt, says_leaves k (in_pieces before) (one.Joined k ∷ []) (other, tt))
          by false away = tt

      piece_leaves : (place : Option Place) (piece : List ℕ) → LeaveBytesOf name (on_piece s place piece (names_in (many s events).own) d)
      piece_leaves None piece = tt
      piece_leaves (Some (Undecided before)) piece = chosen_leaves (choice_on s (before ++ piece)) before piece
      piece_leaves (Some (At e k)) piece = only_leaves (d == e) (one.Piece k piece ∷ []) (tt, tt)

      leaving_leaves : (place : Option Place) → LeaveBytesOf name (on_leaving place d)
      leaving_leaves None = tt
      leaving_leaves (Some (Undecided before)) = tt
      leaving_leaves (Some (At e k)) = only_leaves (d == e) (one.Left k ∷ []) (tt, tt)

      taking_leaves : (k count : ℕ) (place : Option Place) → (k == c) ≡ false → place_of k (many s events).seats ≡ place → LeaveBytesOf name (on_taking place count d)
      taking_leaves k count None differs here = tt
      taking_leaves k count (Some (Undecided before)) differs here = tt
      taking_leaves k count (Some (At e other)) differs here = by (d == e) refl
        where
          by : (b : Bool) → (d == e) ≡ b → LeaveBytesOf name (events_if b (one.Took other count ∷ []))
          by true same =
              let m = many s events in
              let too : place_of k (everybody s events) ≡ Some (At d other) = place_of_front k m.seats m.gone (At e other) here ∙ ap (λ (n : ℕ). Some (At n other)) (sym (eqb-true d e same)) in
              (apart_names s k c events d other name differs too at, tt)
          by false away = tt

      leaves_bytes : (event : ManyEvent) → LeavesBytesOf c (without_device event) → (let m = many s events in LeaveBytesOf name (parts s event m.seats (names_in m.own) d))
      leaves_bytes (Joined k) leaves = tt
      leaves_bytes (Piece k bytes) leaves = piece_leaves (place_of k (many s events).seats) bytes
      leaves_bytes (Left k) leaves = leaving_leaves (place_of k (many s events).seats)
      leaves_bytes (Took k count) leaves = taking_leaves k count (place_of k (many s events).seats) leaves refl
      leaves_bytes (ModemPiece e bytes) leaves = only_leaves (d == e) (one.ModemPiece bytes ∷ []) (tt, tt)
      leaves_bytes (ModemGone e) leaves = only_leaves (d == e) (one.ModemGone ∷ []) (tt, tt)
      leaves_bytes (ModemBack e) leaves = only_leaves (d == e) (one.ModemBack ∷ []) (tt, tt)
      leaves_bytes (ModemTook e count) leaves = only_leaves (d == e) (one.ModemTook count ∷ []) (tt, tt)
      leaves_bytes (Now time) leaves = (tt, tt)

    -- it stands where it stood
    module _ (event : ManyEvent) (leaves : LeavesBytesOf c (without_device event)) where
      grows_at : (place : Option Place) → IsAt place → (let m = many s events in Grows (text_at s m.own place) (text_at s (own_after s event m) place))
      grows_at None at = grows_not empty
      grows_at (Some (Undecided bytes)) at = grows_not empty
      grows_at (Some (At d name)) at = let m = many s events in grows_by_all (s.protocol d) (own_bytes d) (R d) name (parts s event m.seats (names_in m.own) d) (m.own d) (leaves_bytes d name at event leaves)

      grows_there : place_of c (everybody s (event ∷ events)) ≡ place_of c (everybody s events) → Grows (text_for s c events) (text_for s c (event ∷ events))
      unfolding many
      grows_there same =
          let m = many s events in
          subst (λ (o : Option Place). Grows (text_for s c events) (text_at s (own_after s event m) o)) (sym same) (grows_at (place_of c (everybody s events)) refl)

    -- it says something itself
    module _ (piece : List ℕ) (rise : NamesRise (Piece c piece ∷ events)) where
      abbrev After : Option Place → Type 0
      After place = (let m = many s events in Grows (text_for s c events) (text_at s (λ d. on_piece s place piece (names_in m.own) d ++ m.own d) (place_of c (said_by s place c piece (names_in m.own) m.seats ++ (m.gone ++ [])))))

      says_still : (let m = many s events in place_of c (m.seats ++ (m.gone ++ []))) ≡ place_of c (everybody s events)
      says_still = let m = many s events in ap (λ (l : List Seat). place_of c (m.seats ++ l)) (append-nil m.gone)

      first_text : (before : List ℕ) → place_of c (many s events).seats ≡ Some (Undecided before) → text_for s c events ≡ empty
      first_text before at = let m = many s events in ap (text_at s m.own) (place_of_front c m.seats m.gone (Undecided before) at)

      chooses : (before : List ℕ) (choice : Option ℕ) → place_of c (many s events).seats ≡ Some (Undecided before)
          → (let m = many s events in Grows empty (text_at s (λ d. on_choice choice before piece (names_in m.own) d ++ m.own d) (place_of c (chosen_if choice c (before ++ piece) (names_in m.own) m.seats ++ (m.gone ++ [])))))
      chooses before None at =
          let m = many s events in
          let here = place_of_front c (placed c (Undecided (before ++ piece)) m.seats) (m.gone ++ []) (Undecided (before ++ piece)) (placed_here c (Undecided before) (Undecided (before ++ piece)) m.seats at) in
          subst (λ (o : Option Place). Grows empty (text_at s m.own o)) (sym here) (grows_not empty)
      chooses before (Some e) at =
          let m = many s events in
          let k : ℕ = names_in m.own e + 1 in
          let here = place_of_front c (placed c (At e k) m.seats) (m.gone ++ []) (At e k) (placed_here c (Undecided before) (At e k) m.seats at) in
          let met : only_at e (arrival k before piece) e ++ m.own e ≡ arrival k before piece ++ m.own e = only_here e (arrival k before piece) (m.own e) in
          subst (λ (o : Option Place). Grows empty (text_at s (λ d. only_at e (arrival k before piece) d ++ m.own d) o)) (sym here)
          (subst (λ (l : List Event). Grows empty (one_history.text_for (s.protocol e) k l)) (sym met)
          (grows_all (one_history.text_for (s.protocol e) k (arrival k before piece ++ m.own e)) (wait_arriving (s.protocol e) (own_bytes e) (R e) k before piece (m.own e))))

      speaks : (place : Option Place) → place_of c (many s events).seats ≡ place → After place
      speaks None at = let m = many s events in subst (λ (o : Option Place). Grows (text_for s c events) (text_at s m.own o)) (sym says_still) (grows_not (text_for s c events))
      speaks (Some (At d name)) at =
          let m = many s events in
          let here = place_of_front c m.seats m.gone (At d name) at in
          subst (λ (o : Option Place). Grows (text_for s c events) (text_at s (λ e. only_at d (one.Piece name piece ∷ []) e ++ m.own e) o)) (sym says_still)
          (subst (λ (o : Option Place). Grows (text_at s m.own o) (text_at s (λ e. only_at d (one.Piece name piece ∷ []) e ++ m.own e) o)) (sym here)
          (grows_by_all (s.protocol d) (own_bytes d) (R d) name (only_at d (one.Piece name piece ∷ []) d) (m.own d) (only_leaves d name here (d == d) (one.Piece name piece ∷ []) (tt, tt))))
      speaks (Some (Undecided before)) at =
          let m = many s events in
          subst (λ (r : Rendering). Grows r (text_at s (λ d. on_choice (choice_on s (before ++ piece)) before piece (names_in m.own) d ++ m.own d) (place_of c (chosen_if (choice_on s (before ++ piece)) c (before ++ piece) (names_in m.own) m.seats ++ (m.gone ++ []))))) (sym (first_text before at))
          (chooses before (choice_on s (before ++ piece)) at)

      grows_saying : Grows (text_for s c events) (text_for s c (Piece c piece ∷ events))
      unfolding many
      grows_saying =
          let m = many s events in
          subst (λ (o : Option Place). Grows (text_for s c events) (text_at s (own_after s (Piece c piece) m) o)) (sym (stands c (Piece c piece) events rise)) (speaks (place_of c m.seats) refl)

    same_gone : place_of c ((many s events).gone ++ []) ≡ place_of c (many s events).gone
    same_gone = ap (place_of c) (append-nil (many s events).gone)

    pub text_grows : (event : ManyEvent) → NamesRise (event ∷ events) → LeavesBytesOf c (without_device event) → Grows (text_for s c events) (text_for s c (event ∷ events))
    text_grows (Joined k) rise leaves = let m = many s events in grows_there (Joined k) leaves (stands_same c (Joined k) events rise (joined_other c k (nat_lt (length m.seats) s.limit) m.seats leaves) same_gone)
    text_grows (Piece k bytes) rise leaves = by (k == c) refl
      where
        by : (b : Bool) → (k == c) ≡ b → Grows (text_for s c events) (text_for s c (Piece k bytes ∷ events))
        by true same = subst (λ (n : ℕ). Grows (text_for s c events) (text_for s c (Piece n bytes ∷ events))) (sym (eqb-true k c same)) (grows_saying bytes rise)
        by false other = let m = many s events in grows_there (Piece k bytes) leaves (stands_same c (Piece k bytes) events rise (said_other c k (place_of k m.seats) bytes (names_in m.own) m.seats other) same_gone)
    text_grows (Left k) rise leaves = by (k == c) refl
      where
        own_leaving : place_of c (everybody s (Left c ∷ events)) ≡ place_of c (everybody s events)
        own_leaving =
            let m = many s events in
            stands c (Left c) events rise
            ∙ moved c m.seats m.gone (omega (arith, (stands_once s c events rise.1).once, seen s c events))

        by : (b : Bool) → (k == c) ≡ b → Grows (text_for s c events) (text_for s c (Left k ∷ events))
        by true same = subst (λ (n : ℕ). Grows (text_for s c events) (text_for s c (Left n ∷ events))) (sym (eqb-true k c same)) (grows_there (Left c) tt own_leaving)
        by false other =
            let m = many s events in
            let second : place_of c (m.gone ++ seat_of k (place_of k m.seats)) ≡ place_of c m.gone =
            place_of_append c m.gone (seat_of k (place_of k m.seats)) ∙ ap (either (place_of c m.gone)) (other_nowhere c k (place_of k m.seats) other) ∙ either_none (place_of c m.gone)
            in
            grows_there (Left k) leaves (stands_same c (Left k) events rise (without_other c k m.seats other) second)
    text_grows (Took k count) rise leaves = grows_there (Took k count) leaves (stands_same c (Took k count) events rise refl same_gone)
    text_grows (ModemPiece e bytes) rise leaves = grows_there (ModemPiece e bytes) leaves (stands_same c (ModemPiece e bytes) events rise refl same_gone)
    text_grows (ModemGone e) rise leaves = grows_there (ModemGone e) leaves (stands_same c (ModemGone e) events rise refl same_gone)
    text_grows (ModemBack e) rise leaves = grows_there (ModemBack e) leaves (stands_same c (ModemBack e) events rise refl same_gone)
    text_grows (ModemTook e count) rise leaves = grows_there (ModemTook e count) leaves (stands_same c (ModemTook e count) events rise refl same_gone)
    text_grows (Now time) rise leaves = grows_there (Now time) leaves (stands_same c (Now time) events rise refl same_gone)

    -- ---- what others do ----

    -- one event at a device, which leaves what waits for it
    one_waits : (e : ℕ) (event : Event) (place : Option Place) → ((name : ℕ) → place ≡ Some (At e name) → (one_history.text_for (s.protocol e) name (event ∷ own s e events)).waiting ≡ (one_history.text_for (s.protocol e) name (own s e events)).waiting)
        → (let m = many s events in (text_at s (λ d. only_at e (event ∷ []) d ++ m.own d) place).waiting ≡ (text_at s m.own place).waiting)
    one_waits e event None same = refl
    one_waits e event (Some (Undecided bytes)) same = refl
    one_waits e event (Some (At d name)) same = by (d == e) refl
      where
        by : (b : Bool) → (d == e) ≡ b → (one_history.text_for (s.protocol d) name (events_if b (event ∷ []) ++ own s d events)).waiting ≡ (one_history.text_for (s.protocol d) name (own s d events)).waiting
        by true here =
            let is : d ≡ e = eqb-true d e here in
            let at : Some (At d name) ≡ Some (At e name) = ap (λ (n : ℕ). Some (At n name)) is in
            subst (λ (n : ℕ). (one_history.text_for (s.protocol n) name (event ∷ own s n events)).waiting ≡ (one_history.text_for (s.protocol n) name (own s n events)).waiting) (sym is) (same name at)
        by false away = refl

    module _ (k : ℕ) (differs : (k == c) ≡ false) where
      -- it has another name than the other
      apart_from : (e other name : ℕ) → place_of k (many s events).seats ≡ Some (At e other) → IsAt (Some (At e name)) → (other == name) ≡ false
      apart_from e other name here at = let m = many s events in apart_names s k c events e other name differs (place_of_front k m.seats m.gone (At e other) here) at

      taking_waits : (count : ℕ) (place : Option Place) → place_of k (many s events).seats ≡ place → (let m = many s events in (text_at s (λ d. on_taking place count d ++ m.own d) (place_of c (everybody s events))).waiting ≡ (text_for s c events).waiting)
      taking_waits count None here = refl
      taking_waits count (Some (Undecided bytes)) here = refl
      taking_waits count (Some (At e other)) here = one_waits e (one.Took other count) (place_of c (everybody s events)) (λ name at. (R e).took_other other count name (own s e events) (apart_from e other name here at))

      leaving_waits : (place : Option Place) → place_of k (many s events).seats ≡ place → (let m = many s events in (text_at s (λ d. on_leaving place d ++ m.own d) (place_of c (everybody s events))).waiting ≡ (text_for s c events).waiting)
      leaving_waits None here = refl
      leaving_waits (Some (Undecided bytes)) here = refl
      leaving_waits (Some (At e other)) here = one_waits e (one.Left other) (place_of c (everybody s events)) (λ name at. (R e).left_other other name (own s e events) (apart_from e other name here at))

    pub taking_leaves_waiting : (k count : ℕ) → (k == c) ≡ false → place_of c (everybody s (Took k count ∷ events)) ≡ place_of c (everybody s events) → (text_for s c (Took k count ∷ events)).waiting ≡ (text_for s c events).waiting
    unfolding many
    taking_leaves_waiting k count differs same =
        let m = many s events in
        ap (λ (o : Option Place). (text_at s (own_after s (Took k count) m) o).waiting) same ∙ taking_waits k differs count (place_of k m.seats) refl

    pub leaving_leaves_waiting : (k : ℕ) → (k == c) ≡ false → place_of c (everybody s (Left k ∷ events)) ≡ place_of c (everybody s events) → (text_for s c (Left k ∷ events)).waiting ≡ (text_for s c events).waiting
    unfolding many
    leaving_leaves_waiting k differs same =
        let m = many s events in
        ap (λ (o : Option Place). (text_at s (own_after s (Left k) m) o).waiting) same ∙ leaving_waits k differs (place_of k m.seats) refl

    pub modem_leaves_waiting : (e count : ℕ) → place_of c (everybody s (ModemTook e count ∷ events)) ≡ place_of c (everybody s events) → (text_for s c (ModemTook e count ∷ events)).waiting ≡ (text_for s c events).waiting
    unfolding many
    modem_leaves_waiting e count same =
        let m = many s events in
        ap (λ (o : Option Place). (text_at s (own_after s (ModemTook e count) m) o).waiting) same
        ∙ one_waits e (one.ModemTook count) (place_of c (everybody s events)) (λ name at. (R e).modem_took_other count name (own s e events))
