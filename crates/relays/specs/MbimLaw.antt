-- What an MBIM tool's command ends with and prints, at a simulated modem itself and through a proxy where the tool is alone.
use Rattle.std.specs.Prelude.{◌≡◌, ℕ, Option, Some, None, Result}
use Rattle.link_session.specs.declared.fault.SessionFault.{SessionFault}
use Rattle.proxy_history.specs.Coming.{AreSound}
use Rattle.mbim_proxy.specs.History.{mbim_protocol}
use Rattle.mbim_requests.specs.declared.MbimRequest.{MbimRequest}
use Rattle.mbim_requests.specs.declared.MbimRequest.TheVariants.{ProxyConfiguration}
use Rattle.mbim_services.specs.Requests.{IsInRange}
use Rattle.mbim_services.specs.declared.answers.MbimAnswer.{MbimAnswer}
use Rattle.mbim_services.specs.declared.answers.MbimAnswer.TheVariants.{Success, Failure}
use Rattle.mbim_session.specs.declared.plan.MbimPlan.{MbimPlan}
use Rattle.mbim_session.specs.declared.plan.MbimEnd.{MbimEnd}
use Rattle.mbim_session.specs.declared.plan.MbimEnd.TheVariants.{Answer}
use Rattle.mbim_session.specs.Session.{configuration}
use Rattle.mbim_session.specs.Peer.{EndsWith}
use Rattle.modem_profile.specs.Profile.{Profile}
use Rattle.modem_profile.specs.Limits.{IsWithin}
use Rattle.mbimcli_print.specs.Answer.{answer_text}
use Rattle.lone_client.specs.MbimLaw as lone
use Rattle.twin_sessions.specs.Twice.{ComeToTheSame}
use Rattle.twin_sessions.specs.MbimRuns.{Alike, status_in}
use Rattle.relays.specs.MbimRuns.{time_limit, simulated_modem, direct_run, through_run, relay}

-- a plan holds a command, and not the naming of a device, which a session makes by itself
abbrev pub IsCommand : MbimRequest → Type 0
IsCommand (ProxyConfiguration path) = ⊥
IsCommand _ = Unit {0}

-- its values are in their ranges, and so is its device
pub record IsPlan (plan : MbimPlan) : Type 0 where
  pub command : IsCommand plan.request
  pub range : IsInRange plan.request
  pub device : IsInRange (configuration plan)

-- so it is for each profile and each plan
abbrev pub OfEach : (Profile → MbimPlan → Type 0) → Type 0
OfEach P = (profile : Profile) (plan : MbimPlan) → IsWithin profile → IsPlan plan → P profile plan

-- the sessions end with answers that carry the same body
abbrev pub SessionsEndAlike : Type 0
SessionsEndAlike = OfEach (λ profile plan. Alike (direct_run profile plan).end (through_run profile plan).end)

-- a proxy can be run on what it meets
abbrev pub RelaysMayCome : Type 0
RelaysMayCome = OfEach (λ profile plan. AreSound (mbim_protocol (lone.setup plan.device time_limit (simulated_modem profile))) (relay profile plan))

-- both are answers, whose texts are the same, and which refuse by the same status or don't
abbrev pub ReadTheSame : MbimEnd → MbimEnd → Type 0
ReadTheSame (Answer a) (Answer b) = (answer_text a ≡ answer_text b) × (status_in a ≡ status_in b)
ReadTheSame _ _ = ⊥

-- two ends print the same
abbrev pub PrintsTheSame : Result MbimEnd SessionFault → Result MbimEnd SessionFault → Type 0
PrintsTheSame = ComeToTheSame ReadTheSame

-- whatever the two sessions end with, it prints the same
abbrev pub ToolsPrintTheSame : Type 0
ToolsPrintTheSame =
    OfEach (λ profile plan.
    (direct through : Result MbimEnd SessionFault) → EndsWith direct (direct_run profile plan).end → EndsWith through (through_run profile plan).end → PrintsTheSame direct through)
