-- What a stream that is shown as it comes stands for, and what its next piece makes of it.
use Rattle.std.specs.Prelude.{◌≡◌, ℕ, List, [], ◌++◌, Option, Result, Ok, Err}
use Rattle.framing.specs.declared.framing.Size.{Size}
use Rattle.framing.specs.Framing.{IsBad}
use Rattle.framing.specs.Cutting.{cut}
use Rattle.framing.specs.Reading.{Reading}
use Rattle.kit_io.specs.Growth.{Grows, GrowsByFront}
use Rattle.stream_lines.specs.Lines.{Showing, lines_behind, lines_by, place_behind, rest_place}
use Rattle.stream_lines.specs.declared.end.DissectEnd.{DissectEnd}
use Rattle.stream_lines.specs.declared.end.DissectEnd.TheVariants.{Broken, WriteFault, OutOfMemory}

-- these bytes have come, and their whole messages are shown
pub record Stands {S : Type 0} (size : List ℕ → Size) (shows : Showing → List (List ℕ) → S → Type 0) (shown : Showing) (bytes : List ℕ) (cutter : Reading) (state : S) (place : ℕ) : Type 0 where
  pub rest : cutter.rest ≡ (cut size bytes).rest
  pub kept : shows shown (cut size bytes).messages state
  pub placed : place ≡ rest_place size bytes

-- these messages were shown behind others
pub record ShowsAll {S : Type 0} (shows : Showing → List (List ℕ) → S → Type 0) (shown : Showing) (before messages : List (List ℕ)) (state : S) (place : ℕ) (old new : List ℕ) : Type 0 where
  pub kept : shows shown (before ++ messages) state
  pub placed : place ≡ place_behind (before ++ messages)
  pub said : new ≡ old ++ lines_behind shown before messages

-- what the lines of some bytes have more with a piece behind them
pub record Adds (lines : List ℕ → List ℕ) (bytes piece : List ℕ) : Type 0 where
  pub added : List ℕ
  pub whole : lines (bytes ++ piece) ≡ lines bytes ++ added

-- what the piece adds was taken, or a front of it where that failed, or nothing where memory ran out; the stream goes on, unless no message begins like its rest
abbrev pub Adding : {S T : Type 0} → (List ℕ → Size) → (Showing → List (List ℕ) → S → Type 0) → Showing → (bytes added : List ℕ) → Option (List ℕ) → Result T DissectEnd → Reading → S → ℕ → Option (List ℕ) → Type 0
Adding size shows shown bytes added old (Ok done) cutter state place new = Grows old added new × Stands size shows shown bytes cutter state place
Adding size shows shown bytes added old (Err (Broken at)) cutter state place new = Grows old added new × IsBad size (cut size bytes).rest × (at ≡ rest_place size bytes)
Adding size shows shown bytes added old (Err WriteFault) cutter state place new = GrowsByFront old added new
Adding size shows shown bytes added old (Err OutOfMemory) cutter state place new = Grows old [] new
Adding size shows shown bytes added old (Err end) cutter state place new = ⊥

pub record ShowsPiece {S T : Type 0} (size : List ℕ → Size) (shows : Showing → List (List ℕ) → S → Type 0) (shown : Showing) (bytes piece : List ℕ) (old : Option (List ℕ)) (result : Result T DissectEnd) (cutter : Reading) (state : S) (place : ℕ) (new : Option (List ℕ)) : Type 0 where
  pub adds : Adds (lines_by size shown) bytes piece
  pub adding : Adding size shows shown (bytes ++ piece) adds.added old result cutter state place new
