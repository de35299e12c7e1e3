-- What an MBIM modem that carries QMI messages answers to messages, one after another: what one without them answers, but to a set of the
-- QMI service, CID 1. Lists of messages that were met have the newest first.
-- Source: the service QMI in libmbim's data/mbim-service-qmi.json. What a buffer that is no message comes to is this modem's own.
use Rattle.std.specs.Prelude.{◌≡◌, ℕ, Bool, true, bytes_eq, ◌==◌, ◌&&◌, if◌then◌else◌, List, [], ◌∷◌, ◌++◌, map, Option, Some, None}
use Rattle.std.specs.List.{concat}
use Rattle.kit_bytes.specs.Indications.{wants}
use Rattle.framing.specs.Framing.{is_message}
use Rattle.qmux_frame.specs.Frame.{qmux_cut, size_of}
use Rattle.mbim_frame.specs.declared.bodies.CommandHead.{CommandHead}
use Rattle.mbim_frame.specs.declared.status.TheConstants.{INVALID_PARAMETERS, SUCCESS}
use Rattle.mbim_frame.specs.Bodies.{buffer_of, read_command}
use Rattle.mbim_frame.specs.Head.{number_of}
use Rattle.mbim_fragments.specs.Assembling.{Assembled, joining_behind}
use Rattle.mbim_fragments.specs.Runs.{Joining, Whole, longest_body}
use Rattle.modem_profile.specs.Profile.{Profile}
use Rattle.qmi_tunnel.specs.declared.service.TheConstants.{QMI_SERVICE, QMI_MESSAGE}
use Rattle.sim_modem.specs.Sim.{Answering, HasMet, Machine, answers}
use Rattle.sim_mbim.specs.declared.request.Request.{Request}
use Rattle.sim_mbim.specs.declared.request.Request.TheVariants.{Command}
use Rattle.sim_mbim.specs.Answers as mbim
use Rattle.sim_mbim.specs.Modem.{Modem}
use Rattle.sim_mbim.specs.Writing.{done, indication}
use Rattle.sim_qmi.specs.Modem as qmi

-- ---- what is carried ----

abbrev pub carrier : CommandHead
carrier = record { uuid = QMI_SERVICE; cid = QMI_MESSAGE; set = true }

-- whether this is the head of a command that carries a message
abbrev pub carries : CommandHead → Bool
carries head = head.set && bytes_eq head.uuid QMI_SERVICE && (head.cid == QMI_MESSAGE)

abbrev pub carried_by : (body : List ℕ) → Option CommandHead → Option (List ℕ)
carried_by body None = None
carried_by body (Some head) = if carries head then Some (buffer_of body) else None

-- by the command that has this body
abbrev pub carried_in : (body : List ℕ) → Option (List ℕ)
carried_in body = carried_by body (read_command body)

abbrev pub carried_whole : Joining → Option (List ℕ)
carried_whole (Whole body) = carried_in body
carried_whole joining = None

-- by the command that a message completes, where these fragments came before
abbrev pub carried_at : (message : List ℕ) → Assembled → Request → Option (List ℕ)
carried_at m begun Command = carried_whole (joining_behind longest_body begun m)
carried_at m begun request = None

-- ---- what is answered ----

abbrev pub indications : (longest : ℕ) → List (List ℕ) → List ℕ
indications longest messages = concat (map (indication longest carrier) messages)

-- the first of the messages that the QMI modem sends is its response; what else it sends is told to whoever listens
abbrev pub answer : (number : ℕ) → Modem → List (List ℕ) → List ℕ
answer number m [] = done number m.longest carrier INVALID_PARAMETERS []
answer number m (response ∷ more) = done number m.longest carrier SUCCESS response ++ (if wants m.subscribed QMI_SERVICE QMI_MESSAGE then indications m.longest more else [])

-- what the QMI modem sends for a buffer behind the messages that it has met, and those that it has met then: it is sent whole messages alone
abbrev pub said : Answering → (met : List (List ℕ)) → (buffer : List ℕ) → List ℕ
said answering met buffer = if is_message size_of buffer then answering met buffer else []

abbrev pub met_then : (met : List (List ℕ)) → (buffer : List ℕ) → List (List ℕ)
met_then met buffer = if is_message size_of buffer then buffer ∷ met else met

-- ---- every message ----

pub record State : Type 0 where
  -- the modem without what it carries
  pub mbim : mbim.State
  -- the messages that the QMI modem has met
  pub met : List (List ℕ)

abbrev pub fresh : Profile → State
fresh p = record { mbim = mbim.fresh p; met = [] }

-- what is said, and the messages that the QMI modem has met then
pub record Exchange : Type 0 where
  pub text : List ℕ
  pub met : List (List ℕ)

-- of the modem without what it carries
abbrev pub alone : (message : List ℕ) → State → Exchange
alone m s = record { text = (mbim.exchange_at m s.mbim).text; met = s.met }

abbrev pub carries_to : Answering → (number : ℕ) → Modem → (met : List (List ℕ)) → (buffer : List ℕ) → Exchange
carries_to answering number m met buffer = record { text = answer number m (qmux_cut (said answering met buffer)).messages; met = met_then met buffer }

-- only a modem that is open carries anything
abbrev pub exchange_of : Answering → (message : List ℕ) → State → Option (List ℕ) → Exchange
exchange_of answering m s None = alone m s
exchange_of answering m s (Some buffer) =
    if (mbim.exchange_at m s.mbim).modem.opened
    then carries_to answering (number_of m) (mbim.exchange_at m s.mbim).modem s.met buffer
    else alone m s

abbrev pub exchange_at : Answering → (message : List ℕ) → State → Exchange
exchange_at answering m s = exchange_of answering m s (carried_at m s.mbim.begun (mbim.request_of m))

abbrev pub state_at : Answering → (message : List ℕ) → State → State
state_at answering m s = record { mbim = mbim.state_at m s.mbim; met = (exchange_at answering m s).met }

-- ---- a modem ----

-- what the QMI modem of this profile answers
abbrev pub qmi_answers : Profile → Answering
qmi_answers p = answers (qmi.machine p)

abbrev pub machine : Profile → Machine State
machine p = record {
  fresh = fresh p;
  sends = λ s message. (exchange_at (qmi_answers p) message s).text;
  next = λ s message. state_at (qmi_answers p) message s;
}

-- a running modem
pub record Running : Type 0 where
  -- what has come of a command of which more fragments are due
  pub begun : Assembled
  pub mbim : mbim.State
  pub qmi : qmi.Modem

-- it is in this state, where the QMI modem answers so
pub record IsIn (answering : Answering) (s : State) (running : Running) : Type 0 where
  pub begun : running.begun ≡ s.mbim.begun
  pub mbim : running.mbim ≡ s.mbim
  pub qmi : qmi.Keeps answering s.met running.qmi

-- a modem of some profile, with these answers, has met these messages
pub record Keeps (answering : Answering) (past : List (List ℕ)) (running : Running) : Type 0 where
  pub profile : Profile
  pub state : State
  pub has_met : HasMet (machine profile) answering past state
  pub is_in : IsIn (qmi_answers profile) state running
