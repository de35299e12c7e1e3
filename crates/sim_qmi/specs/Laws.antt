-- Laws of a modem's messages. Lists of messages have the newest first.
use Rattle.std.specs.Prelude.{◌≡◌, ◌↔◌, ℕ, Bool, true, false, ◌&&◌, is_some, List, [], ◌∷◌, ◌++◌, Some, None, Result, Ok, if◌then◌else◌}
use Rattle.std.specs.List.{IsDistinct}
use Rattle.framing.specs.Framing.{AreBytes, IsMessage}
use Rattle.qmux_frame.specs.declared.kind.MessageKind.TheVariants as kind
use Rattle.qmux_frame.specs.Frame.{size_of}
use Rattle.qmux_frame.specs.Head.{head_of, tlvs_in}
use Rattle.qmux_frame.specs.Kind.{framed_kind}
use Rattle.qmux_frame.specs.Laws.{head_from}
use Rattle.qmux_frame.specs.Reply.{reply_to}
use Rattle.qmi_services.specs.Modem.{input_at, input_of, row_at}
use Rattle.qmi_services.specs.Table as table
use Rattle.qmi_services.specs.Table.{Row}
use Rattle.modem_profile.specs.Profile.{Profile}
use Rattle.sim_qmi.specs.declared.client_id.ClientId.{ClientId}
use Rattle.sim_modem.specs.Sim.{answers, state_after}
use Rattle.sim_qmi.specs.declared.request.Request.{Request}
use Rattle.sim_qmi.specs.declared.request.Request.TheVariants.{Dms}
use Rattle.sim_qmi.specs.declared.dms.DmsRequest.TheVariants.{SetOperatingMode}
use Rattle.sim_qmi.specs.Modem.{indication, machine}
use Rattle.sim_qmi.specs.Requests.{asked, main_input, request_in}
use Rattle.sim_qmi.specs.State.{State, is_any_given, is_client}

abbrev pub is_same : ClientId → ClientId → Bool
is_same a b = is_client b.service b.id a

-- no client id of a service is given twice, whatever was asked
abbrev pub NoIdIsGivenTwice : Type 0
NoIdIsGivenTwice = (profile : Profile) (past : List (List ℕ)) → IsDistinct is_same (state_after (machine profile) past).clients

-- what is asked sets the operating mode
abbrev pub sets_mode : Result Request ℕ → Bool
sets_mode (Ok (Dms (SetOperatingMode _))) = true
sets_mode _ = false

-- what is told behind a response: the serving system as it is then, where the operating mode was set and any id of NAS is given
abbrev pub told_behind : Profile → (what : Result Request ℕ) → (after : State) → List ℕ
told_behind profile what after = if sets_mode what && is_any_given after.clients table.nas then indication profile after.mode else []

-- one message answers this message, which finds the modem in one state and leaves it in another: it has its service, its client id, its number and its message id; nothing but what is told stands behind it
pub record RepliesTo (profile : Profile) (before after : State) (message messages : List ℕ) : Type 0 where
  pub reply : List ℕ
  pub whole : messages ≡ reply ++ told_behind profile (asked before (head_of message) (tlvs_in message)) after
  pub is_message : IsMessage size_of reply
  pub head : head_of reply ≡ head_from (reply_to (head_of message))

-- each request is answered
abbrev pub EachRequestIsAnswered : Type 0
EachRequestIsAnswered = (profile : Profile) (past : List (List ℕ)) (message : List ℕ) → framed_kind message ≡ Some kind.Request
    → RepliesTo profile (state_after (machine profile) past) (state_after (machine profile) (message ∷ past)) message (answers (machine profile) past message)

-- the message of a request has the input 0x01, and this is missing or unreadable
pub record LacksInput (row : Row) (tlvs : List ℕ) : Type 0 where
  pub has : is_some (input_at main_input row.input) ≡ true
  pub missing : input_of row main_input tlvs ≡ None

-- a request of a message of the table asks something, unless it lacks its input
abbrev pub OnlyTheInputIsMissed : Type 0
OnlyTheInputIsMissed = (service id : ℕ) (row : Row) (tlvs : List ℕ) → row_at service id ≡ Some row → AreBytes tlvs → (request_in row tlvs ≡ None) ↔ LacksInput row tlvs
