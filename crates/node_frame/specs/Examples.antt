-- Worked examples of what a node is written, byte for byte.
use Rattle.std.specs.Prelude.{◌≡◌, ℕ, List, [], ◌∷◌, ◌++◌}
use Rattle.framing.specs.declared.framing.Size.TheVariants.{Unknown, Known, Invalid}
use Rattle.node_frame.specs.Frame.{size_of, node_cut}

-- QMI: a request for the versions of the services, with number 1
abbrev pub versions_request : List ℕ
versions_request = 0x01 ∷ 0x0B ∷ 0x00 ∷ 0x00 ∷ 0x00 ∷ 0x00 ∷ 0x00 ∷ 0x01 ∷ 0x21 ∷ 0x00 ∷ 0x00 ∷ 0x00 ∷ []

-- MBIM: an OPEN with number 2, for messages of at most 4,096 bytes
abbrev pub open_2 : List ℕ
open_2 = 0x01 ∷ 0x00 ∷ 0x00 ∷ 0x00 ∷ 0x10 ∷ 0x00 ∷ 0x00 ∷ 0x00 ∷ 0x02 ∷ 0x00 ∷ 0x00 ∷ 0x00 ∷ 0x00 ∷ 0x10 ∷ 0x00 ∷ 0x00 ∷ []

-- messages behind each other, of whichever kind
pub record MessagesOfBothAreCut : Type 0 where
  pub of_qmux : size_of versions_request ≡ Known 12
  pub of_mbim : size_of open_2 ≡ Known 16
  pub both : node_cut (versions_request ++ open_2) ≡ record { messages = versions_request ∷ open_2 ∷ []; rest = [] }
  pub other_way : node_cut (open_2 ++ versions_request) ≡ record { messages = open_2 ∷ versions_request ∷ []; rest = [] }

-- a message of which the end is yet to come
pub record MessageBegunIsLeft : Type 0 where
  pub two_bytes : size_of (0x01 ∷ 0x00 ∷ []) ≡ Unknown
  pub type_alone : size_of (0x01 ∷ 0x00 ∷ 0x00 ∷ 0x00 ∷ []) ≡ Unknown
  pub begun : node_cut (versions_request ++ 0x01 ∷ 0x0B ∷ 0x00 ∷ 0x00 ∷ []) ≡ record { messages = versions_request ∷ []; rest = 0x01 ∷ 0x0B ∷ 0x00 ∷ 0x00 ∷ [] }

-- bytes that begin no message, which have the length 0 in both
abbrev pub no_message : List ℕ
no_message = 0x01 ∷ 0x00 ∷ 0x00 ∷ 0x00 ∷ 0x00 ∷ 0x00 ∷ 0x00 ∷ 0x00 ∷ []

pub record StreamGoesBadBehindMessages : Type 0 where
  pub bad : size_of no_message ≡ Invalid
  pub behind : node_cut (open_2 ++ no_message ++ open_2) ≡ record { messages = open_2 ∷ []; rest = no_message ++ open_2 }
