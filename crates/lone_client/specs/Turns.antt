-- What a client of an MBIM proxy says in turn that is alone there. Lists of turns and of messages have the newest first.
use Rattle.std.specs.Prelude.{ℕ, ◌^◌, ◌-◌, List, [], ◌∷◌}
use Rattle.mbim_frame.specs.declared.kind.MessageKind.TheVariants as kind
use Rattle.mbim_frame.specs.Kinds.{kind_number}
use Rattle.mbim_frame.specs.Fragment.{body_of}
use Rattle.mbim_frame.specs.Writing.{open_request, close_request}
use Rattle.mbim_fragments.specs.Splitting.{split}
use Rattle.proxy_history.specs.Requests.{following}
use Rattle.mbim_proxy.specs.Forwarding.{own_subscribe}

-- each has the client's own number
pub data Turn : Type 0 where
  -- the command with this body, by which it names the device
  Names : (number : ℕ) (command : List ℕ) → Turn
  -- a request to open the modem
  Opens : (number : ℕ) → Turn
  -- the command with this body, for the modem
  Commands : (number : ℕ) (command : List ℕ) → Turn
  -- a request to close
  Closes : (number : ℕ) → Turn

-- how long its messages are, and the proxy's to the modem
abbrev pub longest_message : ℕ
longest_message = 4096

abbrev pub command_text : (number : ℕ) → (command : List ℕ) → List ℕ
command_text number command = split (kind_number kind.Command) number longest_message command

abbrev pub text_of : Turn → List ℕ
text_of (Names number command) = command_text number command
text_of (Opens number) = open_request number longest_message
text_of (Commands number command) = command_text number command
text_of (Closes number) = close_request number

-- ---- how far the client has come ----

pub data Phase : Type 0 where
  Joined : Phase
  Named : Phase
  Opened : Phase
  Closed : Phase

abbrev pub phase_after : List Turn → Phase
phase_after [] = Joined
phase_after (Names number command ∷ turns) = Named
phase_after (Opens number ∷ turns) = Opened
phase_after (Commands number command ∷ turns) = Opened
phase_after (Closes number ∷ turns) = Closed

-- ---- what the modem is asked ----

-- each turn but the naming has the modem asked once, and numbers go up from 1
abbrev pub number_after : ℕ → ℕ
number_after last = following (2 ^ 32 - 1) last

abbrev pub last_number : List Turn → ℕ
last_number [] = 0
last_number (Names number command ∷ turns) = last_number turns
last_number (_ ∷ turns) = number_after (last_number turns)

-- the number under which it is asked next
abbrev pub next_number : List Turn → ℕ
next_number turns = number_after (last_number turns)

-- the bytes for the modem under this number: the proxy opens the modem by itself, and asks for no indications once the client has closed
abbrev pub asked_under : (given : ℕ) → Turn → List ℕ
asked_under given (Names number command) = []
asked_under given (Opens number) = open_request given longest_message
asked_under given (Commands number command) = command_text given command
asked_under given (Closes number) = command_text given (body_of (own_subscribe []))
