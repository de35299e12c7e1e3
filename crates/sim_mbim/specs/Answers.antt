-- What the modem answers to messages, one after another.
-- Source: the USB-IF MBIM specification 1.0, sections 9.1 to 9.4. Which error stands for which refusal, and how long messages may be, are this modem's own.
use Rattle.std.specs.Prelude.{ℕ, true, not, ◌==◌, nat_lt, min, max, List, [], length, Option, Some, None, if◌then◌else◌}
use Rattle.sim_modem.specs.Sim.{Answering, Machine, HasMet}
use Rattle.mbim_frame.specs.declared.kind.MessageKind.TheVariants as kind
use Rattle.mbim_frame.specs.declared.error.TheConstants.{OUT_OF_SEQUENCE, LENGTH_MISMATCH, NOT_OPENED, TOO_LONG}
use Rattle.mbim_frame.specs.declared.status.TheConstants.{SUCCESS}
use Rattle.mbim_frame.specs.declared.bodies.CommandHead.{CommandHead}
use Rattle.mbim_frame.specs.Numbers.{u32_at}
use Rattle.mbim_frame.specs.Head.{is_kind, number_of}
use Rattle.mbim_frame.specs.Bodies.{read_command, buffer_of}
use Rattle.mbim_frame.specs.Writing.{open_done, close_done, function_error}
use Rattle.mbim_fragments.specs.Runs.{Joining, More, Whole, OutOfSequence, TooLong, longest_body}
use Rattle.mbim_fragments.specs.Assembling as assembling
use Rattle.mbim_fragments.specs.Assembling.{Assembled, joining_behind, assembled_after}
use Rattle.modem_profile.specs.Profile.{Profile}
use Rattle.sim_mbim.specs.declared.request.Request.{Request}
use Rattle.sim_mbim.specs.declared.request.Request.TheVariants.{Open, Close, Command, Wrong, Other}
use Rattle.sim_mbim.specs.Modem.{Modem, started}
use Rattle.sim_mbim.specs.Commands.{Reply, reply_to}
use Rattle.sim_mbim.specs.Writing.{reply_text}

-- what is said to a message, and the modem that it leaves
pub record Exchange : Type 0 where
  pub text : List ℕ
  pub modem : Modem

abbrev pub says : Modem → List ℕ → Exchange
says m text = record { text = text; modem = m }

abbrev pub errs : (number code : ℕ) → Modem → Exchange
errs number code m = says m (function_error number code)

-- ---- what a message asks for ----

-- by its kind and its length
abbrev pub request_of : (message : List ℕ) → Request
request_of m =
    if is_kind kind.Open m then (if length m == 16 then Open (u32_at m 12) else Wrong)
    else if is_kind kind.Close m then (if length m == 12 then Close else Wrong)
    else if not (is_kind kind.Command m) then Other
    else if nat_lt (length m) 20 then Wrong
    else Command

-- ---- opening ----

-- with the limit that is asked for, but not less than 64 bytes, and not more than 4,096
abbrev pub opened : (longest : ℕ) → Modem → Modem
opened longest m = record m { opened = true; longest = min (max longest 64) 4096 }

-- ---- commands ----

abbrev pub exchange_at_reply : (number : ℕ) → CommandHead → Reply → Exchange
exchange_at_reply number head reply = says reply.modem (reply_text number reply.modem.longest head reply)

-- to the command that a whole body spells, if it spells one
abbrev pub exchange_at_command : (number : ℕ) → (body : List ℕ) → Modem → Option CommandHead → Exchange
exchange_at_command number body m None = errs number LENGTH_MISMATCH m
exchange_at_command number body m (Some head) = if m.opened then exchange_at_reply number head (reply_to head (buffer_of body) m) else errs number NOT_OPENED m

-- to what a fragment comes to
abbrev pub exchange_at_joining : (number : ℕ) → Modem → Joining → Exchange
exchange_at_joining number m More = says m []
exchange_at_joining number m OutOfSequence = errs number OUT_OF_SEQUENCE m
exchange_at_joining number m TooLong = errs number TOO_LONG m
exchange_at_joining number m (Whole body) = exchange_at_command number body m (read_command body)

-- ---- every message ----

pub record State : Type 0 where
  -- what has come of a command of which more fragments are due
  pub begun : Assembled
  pub modem : Modem

abbrev pub fresh : Profile → State
fresh p = record { begun = assembling.fresh; modem = started p }

abbrev pub exchange_at_request : (message : List ℕ) → State → Request → Exchange
exchange_at_request m s (Open longest) = says (opened longest s.modem) (open_done (number_of m) SUCCESS)
exchange_at_request m s Close = says s.modem (close_done (number_of m) SUCCESS)
exchange_at_request m s Command = exchange_at_joining (number_of m) s.modem (joining_behind longest_body s.begun m)
exchange_at_request m s Wrong = errs (number_of m) LENGTH_MISMATCH s.modem
exchange_at_request m s Other = says s.modem []

abbrev pub exchange_at : (message : List ℕ) → State → Exchange
exchange_at m s = exchange_at_request m s (request_of m)

-- only a fragment of a command goes on with what has come
abbrev pub begun_at_request : (message : List ℕ) → Assembled → Request → Assembled
begun_at_request m begun Command = assembled_after longest_body begun m
begun_at_request m begun _ = begun

abbrev pub state_at : (message : List ℕ) → State → State
state_at m s = record { begun = begun_at_request m s.begun (request_of m); modem = (exchange_at m s).modem }

-- ---- a modem ----

abbrev pub machine : Profile → Machine State
machine p = record {
  fresh = fresh p;
  sends = λ s message. (exchange_at message s).text;
  next = λ s message. state_at message s;
}

-- a modem of some profile, with these answers, has met these messages
pub record Keeps (answering : Answering) (past : List (List ℕ)) (s : State) : Type 0 where
  pub profile : Profile
  pub has_met : HasMet (machine profile) answering past s
