-- Which messages a node is written.
use Rattle.std.specs.Prelude.{ℕ, ◌≤◌, List, length}
use Rattle.framing.specs.Framing.{IsMessage, IsBad}
use Rattle.mbim_frame.specs.Numbers.{u32_at}
use Rattle.qmux_frame.specs.Frame as qmux
use Rattle.mbim_frame.specs.Frame as mbim
use Rattle.node_frame.specs.Frame.{size_of}

-- the first four bytes are a type of message that a host sends in MBIM, or a lower number
pub record HasHostType (bytes : List ℕ) : Type 0 where
  pub whole : 4 ≤ length bytes
  pub type_is : u32_at bytes 0 ≤ 4

-- a message of QMUX is one of the node, and so is one of MBIM that a host sends
pub record MessagesAreTold : Type 0 where
  pub of_qmux : (bytes : List ℕ) → IsMessage qmux.size_of bytes → IsMessage size_of bytes
  pub of_mbim : (bytes : List ℕ) → HasHostType bytes → IsMessage mbim.size_of bytes → IsMessage size_of bytes

-- no message of QMUX begins like one of MBIM that a host sends
abbrev pub NoBytesBeginBoth : Type 0
NoBytesBeginBoth = (bytes : List ℕ) → HasHostType bytes → IsBad qmux.size_of bytes
