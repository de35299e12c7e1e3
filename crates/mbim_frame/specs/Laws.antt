-- Laws of messages that are written.
use Rattle.std.specs.Prelude.{◌≡◌, ℕ, ◌+◌, ◌^◌, ◌<◌, ◌≤◌, List, length, Some}
use Rattle.framing.specs.declared.framing.Size.TheVariants.{Known}
use Rattle.mbim_frame.specs.declared.kind.MessageKind.{MessageKind}
use Rattle.mbim_frame.specs.declared.writing.NewFragment.{NewFragment}
use Rattle.mbim_frame.specs.declared.bodies.CommandHead.{CommandHead}
use Rattle.mbim_frame.specs.declared.bodies.DoneHead.{DoneHead}
use Rattle.mbim_frame.specs.Frame.{longest_message, size_of}
use Rattle.mbim_frame.specs.Kinds.{kind_number, kind_numbered}
use Rattle.mbim_frame.specs.Head.{kind_of, number_of, head_of, tail_of, with_number}
use Rattle.mbim_frame.specs.Fragment.{fragment_head_of, body_of}
use Rattle.mbim_frame.specs.Bodies.{read_command, command_text, read_done, done_text, buffer_of}
use Rattle.mbim_frame.specs.Writing.{message_text, fragment_text}

-- a number of four bytes
abbrev pub IsU32 : ℕ → Type 0
IsU32 n = n < 2 ^ 32

-- ---- messages ----

-- what is written is one whole message, whose head and tail read as they were written
pub record ReadsBack (kind number : ℕ) (tail : List ℕ) : Type 0 where
  pub whole : size_of (message_text kind number tail) ≡ Known (length (message_text kind number tail))
  pub head : head_of (message_text kind number tail) ≡ record { kind = kind; length = length (message_text kind number tail); number = number }
  pub behind : tail_of (message_text kind number tail) ≡ tail

abbrev pub WrittenIsRead : Type 0
WrittenIsRead = (kind number : ℕ) (tail : List ℕ) → IsU32 kind → IsU32 number → 12 + length tail ≤ longest_message → ReadsBack kind number tail

-- a message with another number has that number, and is the same message in all else
pub record IsRenumbered (number : ℕ) (message : List ℕ) : Type 0 where
  pub number_is : number_of (with_number number message) ≡ number
  pub kind : kind_of (with_number number message) ≡ kind_of message
  pub size : size_of (with_number number message) ≡ size_of message
  pub behind : tail_of (with_number number message) ≡ tail_of message

abbrev pub RenumberedIsTheSame : Type 0
RenumberedIsTheSame = (number : ℕ) (message : List ℕ) → IsU32 number → 12 ≤ length message → IsRenumbered number message

-- each kind has its own number
abbrev pub KindsAreTold : Type 0
KindsAreTold = (number : ℕ) (kind : MessageKind) → (kind_numbered number ≡ Some kind → number ≡ kind_number kind) × (number ≡ kind_number kind → kind_numbered number ≡ Some kind)

-- ---- fragments ----

pub record FitsFragment (f : NewFragment) : Type 0 where
  pub kind : IsU32 f.kind
  pub number : IsU32 f.number
  pub total : IsU32 f.total
  pub current : IsU32 f.current

-- a fragment is one whole message, whose heads and part of the body read as they were written
pub record FragmentReadsBack (f : NewFragment) (part : List ℕ) : Type 0 where
  pub whole : size_of (fragment_text f part) ≡ Known (length (fragment_text f part))
  pub head : head_of (fragment_text f part) ≡ record { kind = f.kind; length = length (fragment_text f part); number = f.number }
  pub place : fragment_head_of (fragment_text f part) ≡ record { total = f.total; current = f.current }
  pub body : body_of (fragment_text f part) ≡ part

abbrev pub FragmentIsRead : Type 0
FragmentIsRead = (f : NewFragment) (part : List ℕ) → FitsFragment f → 20 + length part ≤ longest_message → FragmentReadsBack f part

-- ---- bodies ----

pub record CommandReadsBack (head : CommandHead) (buffer : List ℕ) : Type 0 where
  pub head_is : read_command (command_text head buffer) ≡ Some head
  pub buffer_is : buffer_of (command_text head buffer) ≡ buffer

abbrev pub CommandIsRead : Type 0
CommandIsRead = (head : CommandHead) (buffer : List ℕ) → length head.uuid ≡ 16 → IsU32 head.cid → IsU32 (length buffer) → CommandReadsBack head buffer

pub record DoneReadsBack (head : DoneHead) (buffer : List ℕ) : Type 0 where
  pub head_is : read_done (done_text head buffer) ≡ Some head
  pub buffer_is : buffer_of (done_text head buffer) ≡ buffer

abbrev pub DoneIsRead : Type 0
DoneIsRead = (head : DoneHead) (buffer : List ℕ) → length head.uuid ≡ 16 → IsU32 head.cid → IsU32 head.status → IsU32 (length buffer) → DoneReadsBack head buffer
