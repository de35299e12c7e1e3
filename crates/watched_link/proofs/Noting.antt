-- The calls that are recorded grow with the events, and notes grow within their room.
use Rattle.std.proofs.Common.{◌≡◌, ℕ, ◌-◌, ◌<◌, ◌≤◌, Bool, true, false, if◌then◌else◌, List, [], ◌∷◌, ◌++◌, length, Option, Some, None, refl, ap, sym, ◌∙◌, arith}
use Rattle.std.specs.Option.{option_map}
use Rattle.kit_io.specs.Record.{Noted, Logged, Notes}
use Rattle.kit_io.specs.Growth.{Grows}
use Rattle.link_io.specs.Calls.{Call}
use Rattle.watched_link.specs.Notes.{Event, Called, Said, calls_in}

calls-append : (events more : List Event) → calls_in (events ++ more) ≡ calls_in events ++ calls_in more
calls-append [] more = refl
calls-append (Called call ∷ events) more = ap (λ (l : List Call). call ∷ l) (calls-append events more)
calls-append (Said words ∷ events) more = calls-append events more

calls-grow : (old new : Option (List Event)) (added : List Event) → Grows old added new → Grows (option_map calls_in old) (calls_in added) (option_map calls_in new)
calls-grow old (Some all) added grows =
    let was = grows.recorded all refl in
    record {
      recorded = λ calls is.
          let same : calls_in all ≡ calls = cc in (calls_in was.0, ap (option_map calls_in) was.1, sym same ∙ ap calls_in was.2 ∙ calls-append was.0 added);
    }
calls-grow old None added grows = record { recorded = λ calls is. cc }

-- a call was noted
pub called : (call : Call) {old new : Option (List Event)} → Grows old (Called call ∷ []) new → Grows (option_map calls_in old) (call ∷ []) (option_map calls_in new)
called call {old = old} {new = new} grows = calls-grow old new (Called call ∷ []) grows

-- with what the system said of it
pub failed : (call : Call) {old new : Option (List Event)} → (words : List ℕ) × Grows old (Called call ∷ Said words ∷ []) new → Grows (option_map calls_in old) (call ∷ []) (option_map calls_in new)
failed call {old = old} {new = new} notes = calls-grow old new (Called call ∷ Said notes.0 ∷ []) notes.1

-- a note that fits is recorded where the others are
pub noted_one : {K : Type 0} (whole : Bool) (old new : Logged K) (note : Noted K) (room bytes_room room' bytes_room' : ℕ) → Notes old note new → room ≤ old.room → bytes_room ≤ old.bytes_room
    → 0 < room → length note.bytes ≤ bytes_room → room' ≡ room - 1 → bytes_room' ≡ bytes_room - length note.bytes
    → Notes (record { recorded = (if whole then old.recorded else None); room = room; bytes_room = bytes_room }) note (record { recorded = (if whole then new.recorded else None); room = room'; bytes_room = bytes_room' })
noted_one true old new note room bytes_room room' bytes_room' notes within bytes_within some enough one_less bytes_less = record {
  grows = notes.grows;
  fits = λ before is one fit. notes.fits before is (omega arith) (omega arith);
  room = omega arith;
  bytes_room = omega arith;
}
noted_one false old new note room bytes_room room' bytes_room' notes within bytes_within some enough one_less bytes_less = record {
  grows = record { recorded = λ all is. absurd (cc) };
  fits = λ before is one fit. absurd (cc);
  room = omega arith;
  bytes_room = omega arith;
}
