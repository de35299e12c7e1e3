-- Worked examples of the writes in which bytes go to a node.
use Rattle.std.specs.Prelude.{◌≡◌, ℕ, List, [], ◌∷◌, ◌++◌}
use Rattle.node_frame.specs.Examples.{versions_request, open_2, no_message}
use Rattle.pump.specs.Writes.{writes_behind, writes_of}

-- the first 5 bytes of a QMI message, and the 7 behind them
abbrev pub front : List ℕ
front = 0x01 ∷ 0x0B ∷ 0x00 ∷ 0x00 ∷ 0x00 ∷ []

abbrev pub tail : List ℕ
tail = 0x00 ∷ 0x00 ∷ 0x01 ∷ 0x21 ∷ 0x00 ∷ 0x00 ∷ 0x00 ∷ []

-- whole messages in one piece
pub record EachMessageIsAWrite : Type 0 where
  pub one : writes_behind [] versions_request ≡ versions_request ∷ []
  pub two : writes_behind [] (versions_request ++ open_2) ≡ versions_request ∷ open_2 ∷ []
  pub later : writes_behind open_2 (open_2 ++ versions_request) ≡ open_2 ∷ versions_request ∷ []

-- a message in several pieces, of which one holds another message too
pub record BegunMessageIsEndedAlone : Type 0 where
  pub begins : writes_behind [] (open_2 ++ front) ≡ open_2 ∷ front ∷ []
  pub ends : writes_behind (open_2 ++ front) (tail ++ open_2) ≡ tail ∷ open_2 ∷ []
  pub goes_on : writes_of [] (front ∷ (0x00 ∷ 0x00 ∷ []) ∷ (0x01 ∷ 0x21 ∷ 0x00 ∷ 0x00 ∷ 0x00 ∷ []) ∷ []) ≡ front ∷ (0x00 ∷ 0x00 ∷ []) ∷ (0x01 ∷ 0x21 ∷ 0x00 ∷ 0x00 ∷ 0x00 ∷ []) ∷ []

-- bytes that begin no message, and whatever comes behind them
pub record BadStreamIsWrittenAsItComes : Type 0 where
  pub turns_bad : writes_behind [] (open_2 ++ no_message ++ open_2) ≡ open_2 ∷ (no_message ++ open_2) ∷ []
  pub stays_bad : writes_behind no_message (open_2 ++ versions_request) ≡ (open_2 ++ versions_request) ∷ []
