-- What a modem's node is written: messages of QMUX and of MBIM, told apart by their own first bytes.
-- A message of MBIM that a host sends begins with its type, 1 to 4 in four bytes, the lowest first; there a message of QMUX has a length of 11 at least.
use Rattle.std.specs.Prelude.{ℕ, List, if◌then◌else◌}
use Rattle.framing.specs.declared.framing.Size.{Size}
use Rattle.framing.specs.Framing.{is_invalid}
use Rattle.framing.specs.Cutting.{Cutting, cut}
use Rattle.qmux_frame.specs.Frame as qmux
use Rattle.mbim_frame.specs.Frame as mbim

-- what the first bytes of a message say of its length: what they say in MBIM where no message of QMUX begins so
abbrev pub size_of : List ℕ → Size
size_of bytes = if is_invalid (qmux.size_of bytes) then mbim.size_of bytes else qmux.size_of bytes

-- the whole messages of what a node is written, and its rest
abbrev pub node_cut : List ℕ → Cutting
node_cut stream = cut size_of stream
