-- What a tool's command ends with and prints, at a simulated modem itself and through a proxy where the tool is alone.
use Rattle.std.specs.Prelude.{◌≡◌, ◌≤◌, length, Result}
use Rattle.tlv_codec.specs.Tlv.{tlv_text}
use Rattle.link_session.specs.declared.fault.SessionFault.{SessionFault}
use Rattle.proxy_history.specs.Coming.{AreSound}
use Rattle.qmi_proxy.specs.History.{qmi_protocol}
use Rattle.qmi_requests.specs.declared.QmiRequest.{QmiRequest}
use Rattle.qmi_requests.specs.declared.QmiRequest.TheVariants.{ProxyOpen, Allocate, Release}
use Rattle.qmi_services.specs.Requests.{inputs_of}
use Rattle.qmi_services.specs.declared.answers.QmiEnd.{QmiEnd}
use Rattle.device_core.specs.declared.plan.QmiPlan.{QmiPlan}
use Rattle.device_core.specs.Peer.{EndsWith}
use Rattle.device_core.specs.Hearing.{failure_in}
use Rattle.twin_sessions.specs.Twice.{ComeToTheSame}
use Rattle.twin_sessions.specs.QmiRuns.{Alike}
use Rattle.modem_profile.specs.Profile.{Profile}
use Rattle.modem_profile.specs.Limits.{IsWithin}
use Rattle.sim_qmi.specs.State.{IsSound, fresh}
use Rattle.qmicli_print.specs.Answer.{end_text}
use Rattle.relays.specs.QmiRuns.{setup_of, direct_run, through_run, relay}

-- a plan holds a command, and no request that a session makes by itself; its texts are short
abbrev pub IsCommand : QmiRequest → Type 0
IsCommand (ProxyOpen path) = ⊥
IsCommand (Allocate service) = ⊥
IsCommand (Release service cid) = ⊥
IsCommand _ = Unit {0}

pub record IsPlan (plan : QmiPlan) : Type 0 where
  pub command : IsCommand plan.request
  pub inputs : length (tlv_text (inputs_of plan.request)) ≤ 8000
  pub device : length (tlv_text (inputs_of (ProxyOpen plan.device))) ≤ 8000

-- so it is for each profile and each plan
abbrev pub OfEach : (Profile → QmiPlan → Type 0) → Type 0
OfEach P = (profile : Profile) (plan : QmiPlan) → IsWithin profile → IsSound (fresh profile) → IsPlan plan → P profile plan

-- the sessions end with answers that read alike
abbrev pub SessionsEndAlike : Type 0
SessionsEndAlike = OfEach (λ profile plan. Alike (direct_run profile plan).end (through_run profile plan).end)

-- a proxy can be run on what it meets
abbrev pub RelaysMayCome : Type 0
RelaysMayCome = OfEach (λ profile plan. AreSound (qmi_protocol (setup_of plan)) (relay profile plan))

-- two ends print the same, and are refused by the same error
abbrev pub PrintsTheSame : Result QmiEnd SessionFault → Result QmiEnd SessionFault → Type 0
PrintsTheSame = ComeToTheSame (λ a b. (end_text a ≡ end_text b) × (failure_in a.answer ≡ failure_in b.answer))

-- whatever the two sessions end with, it prints the same
abbrev pub ToolsPrintTheSame : Type 0
ToolsPrintTheSame =
    OfEach (λ profile plan.
    (direct through : Result QmiEnd SessionFault) → EndsWith direct (direct_run profile plan).end → EndsWith through (through_run profile plan).end → PrintsTheSame direct through)
