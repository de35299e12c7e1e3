-- A message as the core reads it.
use Rattle.std.specs.Prelude.{◌≡◌, ℕ, ◌≤◌, Bool, not, ◌&&◌, ◌==◌, List, length, option_copied}
use Rattle.framing.specs.Framing.{AreBytes}
use Rattle.qmux_frame.specs.Head.{head_of}
use Rattle.qmi_proxy.specs.Messages.{value_of, has_length, byte_of, is_success}
use Rattle.qmi_core.specs.declared.message.Message.TheInside.{Inside}

abbrev pub bytes_of : Inside → List ℕ
bytes_of message = message.bytes.now

-- what was read is the message's
pub record IsRead (message : Inside) : Type 0 where
  pub bytes : AreBytes message.bytes.now
  pub long : 12 ≤ length message.bytes.now
  pub head : message.head ≡ head_of message.bytes.now
  pub value : option_copied message.value ≡ value_of 0x01 message.bytes.now

-- it tells success, and brings a client id: the service, then the id
abbrev pub tells_id : List ℕ → Bool
tells_id m =
    is_success m && has_length 2 (value_of 0x01 m)
    && not (byte_of 0 (value_of 0x01 m) == 0) && not (byte_of 1 (value_of 0x01 m) == 0) && not (byte_of 1 (value_of 0x01 m) == 255)
