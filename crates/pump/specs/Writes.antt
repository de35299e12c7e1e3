-- In which writes pieces of a stream go to a modem's node, which takes one message a write.
use Rattle.std.specs.Prelude.{ℕ, true, false, List, [], ◌∷◌, ◌++◌}
use Rattle.framing.specs.Framing.{is_message}
use Rattle.framing.specs.Cutting.{cut}
use Rattle.node_frame.specs.Frame.{size_of}

-- these bytes as one write, where there are any
abbrev pub some : List ℕ → List (List ℕ)
some [] = []
some (byte ∷ bytes) = (byte ∷ bytes) ∷ []

-- the writes of a piece, with what has begun of the message that goes on in it, and with what is yet to be written of that:
-- a write ends with the byte that completes a message, and with the piece
unfoldable pub writes_from : List ℕ → List ℕ → List ℕ → List (List ℕ)
writes_from begun unwritten [] = some unwritten
writes_from begun unwritten (byte ∷ piece) =
    elim (is_message size_of (begun ++ byte ∷ [])) [
      | true ↦ (unwritten ++ byte ∷ []) ∷ writes_from [] [] piece
      | false ↦ writes_from (begun ++ byte ∷ []) (unwritten ++ byte ∷ []) piece
    ]

-- the writes of a piece behind these bytes of the stream, all of which are written
abbrev pub writes_behind : List ℕ → List ℕ → List (List ℕ)
writes_behind before piece = writes_from (cut size_of before).rest [] piece

-- the writes of pieces that come one behind the other
abbrev pub writes_of : List ℕ → List (List ℕ) → List (List ℕ)
writes_of before [] = []
writes_of before (piece ∷ pieces) = writes_behind before piece ++ writes_of (before ++ piece) pieces
