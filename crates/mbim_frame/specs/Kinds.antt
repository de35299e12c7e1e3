-- The kinds of message, and their numbers.
-- Source: the USB-IF MBIM specification 1.0, sections 9.3 and 9.4.
use Rattle.std.specs.Prelude.{ℕ, ◌==◌, if◌then◌else◌, List, [], ◌∷◌, Option, Some, None}
use Rattle.mbim_frame.specs.declared.kind.MessageKind.{MessageKind}
use Rattle.mbim_frame.specs.declared.kind.MessageKind.TheVariants.{Open, Close, Command, HostError, OpenDone, CloseDone, CommandDone, FunctionError, IndicateStatus}

abbrev pub kind_number : MessageKind → ℕ
kind_number Open = 1
kind_number Close = 2
kind_number Command = 3
kind_number HostError = 4
kind_number OpenDone = 0x80000001
kind_number CloseDone = 0x80000002
kind_number CommandDone = 0x80000003
kind_number FunctionError = 0x80000004
kind_number IndicateStatus = 0x80000007

abbrev pub kinds : List MessageKind
kinds = Open ∷ Close ∷ Command ∷ HostError ∷ OpenDone ∷ CloseDone ∷ CommandDone ∷ FunctionError ∷ IndicateStatus ∷ []

abbrev pub numbered_in : ℕ → List MessageKind → Option MessageKind
numbered_in number [] = None
numbered_in number (kind ∷ kinds) = if kind_number kind == number then Some kind else numbered_in number kinds

-- the kind with this number
abbrev pub kind_numbered : ℕ → Option MessageKind
kind_numbered number = numbered_in number kinds
