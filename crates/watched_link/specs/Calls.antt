-- What a call on a watched link adds to its notes.
use Rattle.std.specs.Prelude.{ℕ, List, [], ◌∷◌, true, false, Option, Result, Ok, Err}
use Rattle.kit_io.specs.Record.{Noted}
use Rattle.kit_io.specs.Growth.{Grows}
use Rattle.link_io.specs.Calls.{Call, Sent}
use Rattle.watched_link.specs.declared.note.LinkNote.{LinkNote}
use Rattle.watched_link.specs.Notes.{Called, Said, events_recorded}

-- a call that failed, and what the system said of it
abbrev pub NotesFailure : Option (List (Noted LinkNote)) → Call → Option (List (Noted LinkNote)) → Type 0
NotesFailure old call new = (words : List ℕ) × Grows (events_recorded old) (Called call ∷ Said words ∷ []) (events_recorded new)

-- the call, and behind one that failed what the system said of it
abbrev pub NotesCall : {T E : Type 0} → Option (List (Noted LinkNote)) → Call → Result T E → Option (List (Noted LinkNote)) → Type 0
NotesCall old call (Ok t) new = Grows (events_recorded old) (Called call ∷ []) (events_recorded new)
NotesCall old call (Err e) new = NotesFailure old call new

-- a `send` of these bytes, as it is noted
abbrev pub sent_call : {T E : Type 0} → List ℕ → Result T E → Call
sent_call bytes (Ok t) = Sent bytes true
sent_call bytes (Err e) = Sent [] false
