-- What a device's own proxy meets: its modem's events and the clock's, and of a client that chooses it all that the client said.
use Rattle.std.proofs.Common.{◌≡◌, ℕ, zero, suc, ◌+◌, ◌≤◌, Bool, true, false, not, ◌==◌, List, [], ◌∷◌, ◌++◌, length, filter, take, drop, refl, ap, sym, ◌∙◌, arith, Option, Some, None, if◌then◌else◌}
use Rattle.std.specs.List.{concat}
use Rattle.std.proofs.lemmas.Bool.{eq-eqb}
use Rattle.std.proofs.lemmas.List.{take-append-drop, append_assoc, length-drop, append-nil}
use Rattle.std.proofs.lemmas.List.Elements.{filter-append}
use Rattle.proxy_history.specs.Events.{Event}
use Rattle.proxy_history.specs.Events as one
use Rattle.proxy_history.specs.Streams.{stream}
use Rattle.proxy_history.specs.Coming.{piece_limit}
use Rattle.many_history.specs.Events.{ManyEvent, Joined, Piece, Left, Took, ModemPiece, ModemGone, ModemBack, ModemTook, Now}
use Rattle.many_history.specs.Devices.{Devices, choice_on}
use Rattle.many_history.specs.Many.{Place, Undecided, At, Seat, place_of, pieces_up_to, in_pieces, says, arrival, events_if, on_choice, on_piece, on_leaving, on_taking, parts, names_in, many, own}
use Rattle.many_history.specs.Laws.{is_of_client, of_no_client, of_modem_and_clock}

-- ---- the modem and the clock ----

abbrev others : List Event → List Event
others events = filter (λ event. not (is_of_client event)) events

none_if : (b : Bool) (events : List Event) → others events ≡ [] → others (events_if b events) ≡ []
none_if true events none = none
none_if false events none = refl

all_if : (b : Bool) (events : List Event) → others events ≡ events → others (events_if b events) ≡ events_if b events
all_if true events all = all
all_if false events all = refl

none_said : (name : ℕ) (pieces : List (List ℕ)) (events : List Event) → others events ≡ [] → others (says name pieces events) ≡ []
unfolding says
none_said name [] events none = none
none_said name (piece ∷ pieces) events none = none_said name pieces (one.Piece name piece ∷ events) none

none_on_choice : (choice : Option ℕ) (before piece : List ℕ) (names : ℕ → ℕ) (e : ℕ) → others (on_choice choice before piece names e) ≡ []
none_on_choice None before piece names e = refl
none_on_choice (Some d) before piece names e = none_if (e == d) (arrival (names d + 1) before piece) (none_said (names d + 1) (in_pieces before) (one.Joined (names d + 1) ∷ []) refl)

module _ {Known : Type 0} (s : Devices Known) where
  none_on_piece : (place : Option Place) (piece : List ℕ) (names : ℕ → ℕ) (e : ℕ) → others (on_piece s place piece names e) ≡ []
  none_on_piece None piece names e = refl
  none_on_piece (Some (Undecided before)) piece names e = none_on_choice (choice_on s (before ++ piece)) before piece names e
  none_on_piece (Some (At d name)) piece names e = none_if (e == d) (one.Piece name piece ∷ []) refl

  none_on_leaving : (place : Option Place) (e : ℕ) → others (on_leaving place e) ≡ []
  none_on_leaving None e = refl
  none_on_leaving (Some (Undecided before)) e = refl
  none_on_leaving (Some (At d name)) e = none_if (e == d) (one.Left name ∷ []) refl

  none_on_taking : (place : Option Place) (count e : ℕ) → others (on_taking place count e) ≡ []
  none_on_taking None count e = refl
  none_on_taking (Some (Undecided before)) count e = refl
  none_on_taking (Some (At d name)) count e = none_if (e == d) (one.Took name count ∷ []) refl

  part_is : (event : ManyEvent) (seats : List Seat) (names : ℕ → ℕ) (e : ℕ) → others (parts s event seats names e) ≡ of_no_client event e
  part_is (Joined c) seats names e = refl
  part_is (Piece c bytes) seats names e = none_on_piece (place_of c seats) bytes names e
  part_is (Left c) seats names e = none_on_leaving (place_of c seats) e
  part_is (Took c count) seats names e = none_on_taking (place_of c seats) count e
  part_is (ModemPiece d bytes) seats names e = all_if (e == d) (one.ModemPiece bytes ∷ []) refl
  part_is (ModemGone d) seats names e = all_if (e == d) (one.ModemGone ∷ []) refl
  part_is (ModemBack d) seats names e = all_if (e == d) (one.ModemBack ∷ []) refl
  part_is (ModemTook d count) seats names e = all_if (e == d) (one.ModemTook count ∷ []) refl
  part_is (Now time) seats names e = refl

  pub modem_and_clock_are : (events : List ManyEvent) (d : ℕ) → others (own s d events) ≡ of_modem_and_clock d events
  unfolding many of_modem_and_clock
  modem_and_clock_are [] d = refl
  modem_and_clock_are (event ∷ events) d =
      let m = many s events in
      let part : List Event = parts s event m.seats (names_in m.own) d in
      filter-append (λ event. not (is_of_client event)) part (m.own d)
      ∙ ap (λ (l : List Event). l ++ others (m.own d)) (part_is event m.seats (names_in m.own) d)
      ∙ ap (λ (l : List Event). of_no_client event d ++ l) (modem_and_clock_are events d)

-- ---- a client that chooses ----

pieces_are_whole : (count : ℕ) (bytes : List ℕ) → length bytes ≤ count → concat (pieces_up_to count bytes) ≡ bytes
unfolding pieces_up_to
pieces_are_whole zero [] short = refl
pieces_are_whole zero (byte ∷ bytes) short = absurd (omega (arith, short))
pieces_are_whole (suc count) [] short = refl
pieces_are_whole (suc count) (byte ∷ bytes) short =
    ap (λ (l : List ℕ). take piece_limit (byte ∷ bytes) ++ l) (pieces_are_whole count (drop piece_limit (byte ∷ bytes)) (omega (arith, length-drop piece_limit (byte ∷ bytes), short)))
    ∙ take-append-drop piece_limit (byte ∷ bytes)

same_name : (name : ℕ) {X : Type 0} (x y : X) → (if name == name then x else y) ≡ x
same_name name x y = ap (λ (b : Bool). if b then x else y) (eq-eqb name name refl)

stream_said : (name : ℕ) (pieces : List (List ℕ)) (said events : List Event) → stream name (says name pieces said ++ events) ≡ stream name (said ++ events) ++ concat pieces
unfolding says stream
stream_said name [] said events = sym (append-nil (stream name (said ++ events)))
stream_said name (piece ∷ pieces) said events =
    stream_said name pieces (one.Piece name piece ∷ said) events
    ∙ ap (λ (l : List ℕ). l ++ concat pieces) (same_name name (stream name (said ++ events) ++ piece) (stream name (said ++ events)))
    ∙ append_assoc (stream name (said ++ events)) piece (concat pieces)

pub all_is_said : (name : ℕ) (before piece : List ℕ) (events : List Event) → stream name (arrival name before piece ++ events) ≡ before ++ piece
unfolding stream
all_is_said name before piece events =
    let said : List Event = says name (in_pieces before) (one.Joined name ∷ []) ++ events in
    same_name name (stream name said ++ piece) (stream name said)
    ∙ ap (λ (l : List ℕ). l ++ piece) (stream_said name (in_pieces before) (one.Joined name ∷ []) events
    ∙ ap (λ (l : List ℕ). l ++ concat (in_pieces before)) (same_name name [] (stream name events))
    ∙ pieces_are_whole (length before) before (omega arith))
