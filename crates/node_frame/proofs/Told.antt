-- Messages of QMUX and of MBIM are told apart.
use Rattle.std.proofs.Common.{ℕ, List, refl, arith}
use Rattle.std.proofs.lemmas.Bool.Decides.{nat_tests}
use Rattle.framing.specs.Framing.{IsMessage, IsBad}
use Rattle.qmux_frame.specs.Frame as qmux
use Rattle.mbim_frame.specs.Frame as mbim
use Rattle.node_frame.specs.Frame.{size_of}
use Rattle.node_frame.specs.Laws.{HasHostType}

pub bad_in_qmux : (bytes : List ℕ) → HasHostType bytes → IsBad qmux.size_of bytes
bad_in_qmux bytes has = let whole = has.whole in let type_is = has.type_is in grind (arith, nat_tests)

pub message_of_qmux : (bytes : List ℕ) → IsMessage qmux.size_of bytes → IsMessage size_of bytes
message_of_qmux bytes is = rw is refl

pub message_of_mbim : (bytes : List ℕ) → HasHostType bytes → IsMessage mbim.size_of bytes → IsMessage size_of bytes
message_of_mbim bytes has is = rw (bad_in_qmux bytes has) is
