-- The head of a fragment, which stands behind the head of a message: how many fragments the message has, and which of them this one is, counted from 0.
-- Source: the USB-IF MBIM specification 1.0, section 9.2, "MBIM_FRAGMENT_HEADER".
use Rattle.std.specs.Prelude.{ℕ, List, drop}
use Rattle.mbim_frame.specs.declared.fragment.FragmentHead.{FragmentHead}
use Rattle.mbim_frame.specs.Numbers.{u32_at}

abbrev pub total_of : List ℕ → ℕ
total_of message = u32_at message 12

abbrev pub current_of : List ℕ → ℕ
current_of message = u32_at message 16

abbrev pub fragment_head_of : List ℕ → FragmentHead
fragment_head_of message = record { total = total_of message; current = current_of message }

-- what stands behind both heads: the fragment's part of the body
abbrev pub body_of : List ℕ → List ℕ
body_of message = drop 20 message
