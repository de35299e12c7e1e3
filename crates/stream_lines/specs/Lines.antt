-- The lines in which the messages of a stream are shown.
use Rattle.std.specs.Prelude.{ℕ, List, [], ◌∷◌, ◌++◌, length}
use Rattle.std.specs.List.{concat}
use Rattle.framing.specs.declared.framing.Size.{Size}
use Rattle.framing.specs.Cutting.{cut}

-- the lines that a message has behind others
abbrev pub Showing : Type 0
Showing = List (List ℕ) → List ℕ → List ℕ

-- the lines of messages, one after another, behind others
abbrev pub lines_behind : Showing → List (List ℕ) → List (List ℕ) → List ℕ
lines_behind shown before [] = []
lines_behind shown before (message ∷ messages) = shown before message ++ lines_behind shown (before ++ message ∷ []) messages

-- the lines of the whole messages of a stream
abbrev pub lines_by : (List ℕ → Size) → Showing → List ℕ → List ℕ
lines_by size shown bytes = lines_behind shown [] (cut size bytes).messages

-- where a message stands in the stream that stands behind others
abbrev pub place_behind : List (List ℕ) → ℕ
place_behind before = length (concat before)

-- where the rest of a stream begins
abbrev pub rest_place : (List ℕ → Size) → List ℕ → ℕ
rest_place size bytes = place_behind (cut size bytes).messages
