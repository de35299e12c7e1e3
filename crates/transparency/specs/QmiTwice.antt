-- What is said of a command that is run twice.
use Rattle.std.specs.Prelude.{◌≤◌, length}
use Rattle.std.specs.Str.{encode_utf8_all}
use Rattle.tlv_codec.specs.Tlv.{tlv_text}
use Rattle.kit_bytes.specs.declared.kind.Kind.TheVariants.{Qmi}
use Rattle.core_bench.specs.Runs.{Run}
use Rattle.qmi_requests.specs.declared.QmiRequest.TheVariants.{ProxyOpen}
use Rattle.qmi_services.specs.Requests.{inputs_of}
use Rattle.device_core.specs.declared.plan.QmiPlan.{QmiPlan}
use Rattle.modem_profile.specs.Profile.{Profile}
use Rattle.sim_qmi.specs.State.{IsSound, fresh}
use Rattle.transparency.specs.Peers.{opened}
use Rattle.relays.specs.QmiLaw.{IsCommand}
use Rattle.relays.specs.QmiRuns.{relay}

-- a plan and a profile of which it is said: the plan has a command of the tool, and the profile's messages are bytes
pub record IsTold (profile : Profile) (plan : QmiPlan) : Type 0 where
  pub command : IsCommand plan.request
  pub sound : IsSound (fresh profile)

-- what is run on a bench for it
abbrev pub run_of : Profile → QmiPlan → Run
run_of profile plan = record (opened Qmi (encode_utf8_all plan.device)) { events = relay profile plan }

-- the texts of a plan leave room in a message
pub record AreShort (plan : QmiPlan) : Type 0 where
  pub inputs : length (tlv_text (inputs_of plan.request)) ≤ 8000
  pub device : length (tlv_text (inputs_of (ProxyOpen plan.device))) ≤ 8000
