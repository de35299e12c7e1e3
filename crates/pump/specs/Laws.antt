-- What a pump's calls come to: the bytes that came, and those that went on.
use Rattle.std.specs.Prelude.{◌≡◌, ◌⊎◌, ℕ, ◌<◌, List, [], ◌∷◌, ◌++◌, All, length, map, filter_map, Option, Some, None, codes}
use Rattle.std.specs.List.{concat}
use Rattle.framing.specs.Framing.{IsMessage, IsPartial, IsBad}
use Rattle.framing.specs.Cutting.{cut}
use Rattle.node_frame.specs.Frame.{size_of}
use Rattle.link_io.specs.Target.{Address}
use Rattle.link_io.specs.Calls as link
use Rattle.file_io.specs.Calls as file
use Rattle.file_io.specs.declared.files.Side.TheVariants.{Read, Write}
use Rattle.pump.specs.declared.ending.PumpEnd.{PumpEnd}
use Rattle.pump.specs.declared.ending.PumpEnd.TheVariants.{Ended}
use Rattle.pump.specs.Beginning.{Pumps}
use Rattle.pump.specs.Reading.{SendsReads}
use Rattle.pump.specs.Writes.{some, writes_behind}
use Rattle.pump.specs.Writing.{WritesTakes}

-- ---- what came ----

abbrev pub piece_read : file.Call → Option (List ℕ)
piece_read (file.Gave bytes) = Some bytes
piece_read _ = None

abbrev pub piece_taken : link.Call → Option (List ℕ)
piece_taken (link.Took bytes) = Some bytes
piece_taken _ = None

-- ---- what went on ----

abbrev pub bytes_sent : link.Call → List ℕ
bytes_sent (link.Sent bytes ok) = bytes
bytes_sent _ = []

abbrev pub bytes_written : file.Call → List ℕ
bytes_written (file.Took bytes) = bytes
bytes_written _ = []

abbrev pub sent : List link.Call → List ℕ
sent calls = concat (map bytes_sent calls)

abbrev pub written : List file.Call → List ℕ
written calls = concat (map bytes_written calls)

-- ---- the laws ----

-- these bytes are a front of what came behind the first bytes, hold all of it but the last piece, and are the whole once the side that it came from has ended
pub record GoesOn (first : List ℕ) (came : List (List ℕ)) (end : PumpEnd) (bytes : List ℕ) : Type 0 where
  pub front : (rest : List ℕ) × (first ++ concat came ≡ bytes ++ rest)
  pub all_but_last : (earlier : List (List ℕ)) (last : List ℕ) → came ≡ earlier ++ last ∷ [] → (more : List ℕ) × (bytes ≡ (first ++ concat earlier) ++ more)
  pub whole : end ≡ Ended → bytes ≡ first ++ concat came

-- what was sent is a front of the letter and of what was read behind it
abbrev pub WhatWasReadIsSent : Type 0
WhatWasReadIsSent = (bridge : Address) (node : List ℕ) (turns : ℕ) (end : PumpEnd) (on_link : List link.Call) (on_files : List file.Call)
    → Pumps bridge node Read (codes "r") (SendsReads turns end) end on_link on_files
    → GoesOn (codes "r") (filter_map piece_read on_files) end (sent on_link)

-- what was sent is a front of the letter, and what was written is a front of what was taken
pub record SendsLetterAndWrites (end : PumpEnd) (on_link : List link.Call) (on_files : List file.Call) : Type 0 where
  pub letter : GoesOn (codes "w") [] end (sent on_link)
  pub written : GoesOn [] (filter_map piece_taken on_link) end (written on_files)

abbrev pub WhatWasTakenIsWritten : Type 0
WhatWasTakenIsWritten = (bridge : Address) (node : List ℕ) (turns : ℕ) (end : PumpEnd) (on_link : List link.Call) (on_files : List file.Call)
    → Pumps bridge node Write (codes "w") (WritesTakes turns end) end on_link on_files
    → SendsLetterAndWrites end on_link on_files

-- of what goes to a node: messages that come whole are written one by one, and each end of a message ends a write
pub record WholeMessagesAreWrittenAlone : Type 0 where
  -- a piece of whole messages, behind whole messages
  pub alone : (before : List ℕ) (messages : List (List ℕ)) → (cut size_of before).rest ≡ [] → All (IsMessage size_of) messages → writes_behind before (concat messages) ≡ messages
  -- a stream that comes in one piece
  pub in_one_piece : (stream : List ℕ) → writes_behind [] stream ≡ (cut size_of stream).messages ++ some (cut size_of stream).rest
  -- the end of a message that had begun before
  pub ended : (before tail more : List ℕ) → 0 < length tail → IsMessage size_of ((cut size_of before).rest ++ tail) → writes_behind before (tail ++ more) ≡ tail ∷ writes_behind (before ++ tail) more
  -- a piece in which no message ends, or behind which none begins any more
  pub as_it_came : (before piece : List ℕ) → IsPartial size_of ((cut size_of before).rest ++ piece) ⊎ IsBad size_of ((cut size_of before).rest ++ piece) → writes_behind before piece ≡ some piece
  -- a stream that is bad stays so
  pub stays_bad : (before piece : List ℕ) → IsBad size_of (cut size_of before).rest → (writes_behind before piece ≡ some piece) × IsBad size_of (cut size_of (before ++ piece)).rest
