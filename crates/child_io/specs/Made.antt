-- The notes of a spawner in memory, as calls.
use Rattle.std.specs.Prelude.{ℕ, List, [], ◌∷◌, ◌++◌, map, fold, Option}
use Rattle.std.specs.Option.{option_map}
use Rattle.kit_io.specs.Record.{Noted}
use Rattle.child_io.specs.declared.memory.Made.{Made}
use Rattle.child_io.specs.declared.memory.Made.TheVariants as made
use Rattle.child_io.specs.Calls.{Call, Started, StartFailed, Ended, EndFailed, Stopped}

-- the calls that some notes stand for, and the words since the last start began
pub record Gathered : Type 0 where
  pub calls : List Call
  pub words : List (List ℕ)

abbrev pub with_call : Call → Gathered → Gathered
with_call call gathered = record { calls = gathered.calls ++ call ∷ []; words = gathered.words }

abbrev pub with_made : Made → List ℕ → Gathered → Gathered
with_made made.Starts bytes gathered = record { calls = gathered.calls; words = [] }
with_made made.Word bytes gathered = record { calls = gathered.calls; words = gathered.words ++ bytes ∷ [] }
with_made (made.Started child) bytes gathered = with_call (Started gathered.words child) gathered
with_made made.StartFailed bytes gathered = with_call (StartFailed gathered.words) gathered
with_made (made.Ended child status) bytes gathered = with_call (Ended child status) gathered
with_made (made.EndFailed child) bytes gathered = with_call (EndFailed child) gathered
with_made (made.Stopped child ok after) bytes gathered = with_call (Stopped child ok after) gathered

abbrev pub with_note : Gathered → Noted Made → Gathered
with_note gathered note = with_made note.kind note.bytes gathered

abbrev pub gathered_from : Gathered → List (Noted Made) → Gathered
gathered_from gathered notes = fold with_note gathered notes

abbrev pub calls_in : List (Noted Made) → List Call
calls_in notes = (gathered_from (record { calls = []; words = [] }) notes).calls

abbrev pub calls_of : Option (List (Noted Made)) → Option (List Call)
calls_of recorded = option_map calls_in recorded

-- the notes of a start's words
abbrev pub word_note : List ℕ → Noted Made
word_note word = record { kind = made.Word; bytes = word }

abbrev pub words_notes : List (List ℕ) → List (Noted Made)
words_notes words = record { kind = made.Starts; bytes = [] } ∷ map word_note words
