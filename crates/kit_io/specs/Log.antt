-- The notes of a log, whose bytes stand one after another.
use Rattle.std.specs.Prelude.{ℕ, ◌≤◌, List, slice_range}
use Rattle.kit_io.specs.Record.{Noted}
use Rattle.kit_io.specs.declared.log.Note.{Note}

abbrev pub noted : {K : Type 0} → List ℕ → Note K → Noted K
noted bytes note = record { kind = note.kind; bytes = slice_range bytes note.bytes.start note.bytes.end }

-- the note's bytes stand among the first so many
pub record StandsWithin {K : Type 0} (count : ℕ) (note : Note K) : Type 0 where
  pub ordered : note.bytes.start ≤ note.bytes.end
  pub within : note.bytes.end ≤ count
