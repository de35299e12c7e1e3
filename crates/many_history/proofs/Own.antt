-- The events of each device may come to its own proxy.
use Rattle.std.proofs.Common.{◌≡◌, ℕ, zero, suc, ◌+◌, ◌≤◌, Bool, true, false, ◌==◌, List, [], ◌∷◌, ◌++◌, length, drop, refl, sym, subst, arith, Option, Some, None}
use Rattle.std.specs.List.{AllByRecursion}
use Rattle.std.proofs.lemmas.Bool.{eqb-true}
use Rattle.std.proofs.lemmas.List.{length-take}
use Rattle.proxy_history.specs.Events.{Event}
use Rattle.proxy_history.specs.Events as one
use Rattle.proxy_history.specs.Coming.{piece_limit, greatest_name, AreSound}
use Rattle.proxy_history.specs.Protocol.{Protocol}
use Rattle.many_history.specs.Events.{ManyEvent, Joined, Piece, Left, Took, ModemPiece, ModemGone, ModemBack, ModemTook, Now}
use Rattle.many_history.specs.Devices.{Devices, choice_on}
use Rattle.many_history.specs.Many.{Place, Undecided, At, Seat, place_of, pieces_up_to, in_pieces, says, arrival, events_if, only_at, on_choice, on_piece, on_leaving, on_taking, parts, names_in, many}
use Rattle.many_history.specs.Coming.{queued_at}
use Rattle.many_history.specs.Coming as several

-- ---- pieces ----

abbrev pub AreShort : List (List ℕ) → Type 0
AreShort pieces = AllByRecursion (λ piece. length piece ≤ piece_limit) pieces

pub pieces_are_short : (count : ℕ) (bytes : List ℕ) → AreShort (pieces_up_to count bytes)
unfolding pieces_up_to
pieces_are_short zero bytes = tt
pieces_are_short (suc count) [] = tt
pieces_are_short (suc count) (byte ∷ bytes) = (omega (arith, length-take piece_limit (byte ∷ bytes)), pieces_are_short count (drop piece_limit (byte ∷ bytes)))

module _ {Known : Type 0} (p : Protocol Known) where
  said_sound : (name : ℕ) (pieces : List (List ℕ)) (said events : List Event) → AreShort pieces → AreSound p (said ++ events) → AreSound p (says name pieces said ++ events)
  unfolding says
  said_sound name [] said events short sound = sound
  said_sound name (piece ∷ pieces) said events short sound = said_sound name pieces (one.Piece name piece ∷ said) events short.1 (short.0, sound)

  arrival_sound : (before piece : List ℕ) (events : List Event) → length piece ≤ piece_limit → AreSound p events → AreSound p (arrival (greatest_name events + 1) before piece ++ events)
  arrival_sound before piece events short sound =
      (short, said_sound (greatest_name events + 1) (in_pieces before) (one.Joined (greatest_name events + 1) ∷ []) events (pieces_are_short (length before) before) (omega arith, sound))

module _ {Known : Type 0} (s : Devices Known) where
  -- each device's events may come, and with its part too
  abbrev pub AllSound : (ℕ → List Event) → Type 0
  AllSound events = (d : ℕ) → AreSound (s.protocol d) (events d)

  abbrev pub PartsSound : (ℕ → List Event) → (ℕ → List Event) → Type 0
  PartsSound events parts = (d : ℕ) → AreSound (s.protocol d) (parts d ++ events d)

  only_sound : (d : ℕ) (part : List Event) (events : ℕ → List Event) → AreSound (s.protocol d) (part ++ events d) → AllSound events → PartsSound events (only_at d part)
  only_sound d part events may sound e =
      let by : (here : Bool) → (e == d) ≡ here → AreSound (s.protocol e) (events_if here part ++ events e) =
      λ here. elim here as (λ here. (e == d) ≡ here → AreSound (s.protocol e) (events_if here part ++ events e)) [
        | true ↦ λ is. subst (λ (f : ℕ). AreSound (s.protocol f) (part ++ events f)) (sym (eqb-true e d is)) may
        | false ↦ λ is. sound e
      ]
      in by (e == d) refl

  chosen_sound : (choice : Option ℕ) (before piece : List ℕ) (events : ℕ → List Event) → length piece ≤ piece_limit → AllSound events → PartsSound events (on_choice choice before piece (names_in events))
  chosen_sound None before piece events short sound = sound
  chosen_sound (Some d) before piece events short sound = only_sound d (arrival (greatest_name (events d) + 1) before piece) events (arrival_sound (s.protocol d) before piece (events d) short (sound d)) sound

  said_by_sound : (place : Option Place) (piece : List ℕ) (events : ℕ → List Event) → length piece ≤ piece_limit → AllSound events → PartsSound events (on_piece s place piece (names_in events))
  said_by_sound None piece events short sound = sound
  said_by_sound (Some (Undecided before)) piece events short sound = chosen_sound (choice_on s (before ++ piece)) before piece events short sound
  said_by_sound (Some (At d name)) piece events short sound = only_sound d (one.Piece name piece ∷ []) events (short, sound d) sound

  left_sound : (place : Option Place) (events : ℕ → List Event) → AllSound events → PartsSound events (on_leaving place)
  left_sound None events sound = sound
  left_sound (Some (Undecided before)) events sound = sound
  left_sound (Some (At d name)) events sound = only_sound d (one.Left name ∷ []) events (tt, sound d) sound

  taken_sound : (place : Option Place) (count : ℕ) (events : ℕ → List Event) → count ≤ queued_at s events place → AllSound events → PartsSound events (on_taking place count)
  taken_sound None count events may sound = sound
  taken_sound (Some (Undecided before)) count events may sound = sound
  taken_sound (Some (At d name)) count events may sound = only_sound d (one.Took name count ∷ []) events (may, sound d) sound

  -- the events may come that each device meets of one that may come
  pub parts_sound : (event : ManyEvent) (seats : List Seat) (events : ℕ → List Event) → several.MayMeet s event seats events → AllSound events → PartsSound events (parts s event seats (names_in events))
  parts_sound (Joined c) seats events may sound = sound
  parts_sound (Piece c bytes) seats events may sound = said_by_sound (place_of c seats) bytes events may sound
  parts_sound (Left c) seats events may sound = left_sound (place_of c seats) events sound
  parts_sound (Took c count) seats events may sound = taken_sound (place_of c seats) count events may sound
  parts_sound (ModemPiece d bytes) seats events may sound = only_sound d (one.ModemPiece bytes ∷ []) events (may.1, sound d) sound
  parts_sound (ModemGone d) seats events may sound = only_sound d (one.ModemGone ∷ []) events (tt, sound d) sound
  parts_sound (ModemBack d) seats events may sound = only_sound d (one.ModemBack ∷ []) events (tt, sound d) sound
  parts_sound (ModemTook d count) seats events may sound = only_sound d (one.ModemTook count ∷ []) events (may.1, sound d) sound
  parts_sound (Now time) seats events may sound = λ d. (tt, sound d)

  pub own_events_are_sound : (events : List ManyEvent) → several.AreSound s events → AllSound (many s events).own
  unfolding many
  own_events_are_sound [] sound = λ d. tt
  own_events_are_sound (event ∷ events) sound = parts_sound event (many s events).seats (many s events).own (sound.0).1 (own_events_are_sound events sound.1)
