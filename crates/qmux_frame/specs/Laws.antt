-- Laws of messages that are written.
use Rattle.std.specs.Prelude.{◌≡◌, ℕ, true, List, length}
use Rattle.framing.specs.declared.framing.Size.TheVariants.{Known}
use Rattle.qmux_frame.specs.declared.head.Head.{Head}
use Rattle.qmux_frame.specs.declared.writing.NewMessage.{NewMessage}
use Rattle.qmux_frame.specs.Frame.{size_of}
use Rattle.qmux_frame.specs.Head.{head_of, tlvs_in}
use Rattle.qmux_frame.specs.Writing.{message_text}

abbrev pub head_from : NewMessage → Head
head_from m = record { service = m.service; cid = m.cid; flags = m.flags; number = m.number; message = m.message; framed = true }

-- what is written is one whole message, whose head and TLVs read as they were written
pub record ReadsBack (m : NewMessage) (tlvs : List ℕ) : Type 0 where
  pub whole : size_of (message_text m tlvs) ≡ Known (length (message_text m tlvs))
  pub head : head_of (message_text m tlvs) ≡ head_from m
  pub behind : tlvs_in (message_text m tlvs) ≡ tlvs

abbrev pub WrittenIsRead : Type 0
WrittenIsRead = (m : NewMessage) (tlvs : List ℕ) → ReadsBack m tlvs
