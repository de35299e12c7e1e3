-- What a tool ends with that is alone, at a modem itself and through a proxy.
use Rattle.std.specs.Prelude.{◌≡◌, false}
use Rattle.std.specs.Str.{encode_utf8_all}
use Rattle.proxy_history.specs.Coming.{AreSound}
use Rattle.qmi_proxy.specs.Setup.{Setup}
use Rattle.qmi_proxy.specs.History.{qmi_protocol}
use Rattle.device_core.specs.declared.plan.QmiPlan.{QmiPlan}
use Rattle.lone_client.specs.Relay.{Answering}
use Rattle.lone_client.specs.QmiLaw.{cast_of}
use Rattle.twin_sessions.specs.QmiRuns.{direct_run, through_run, met, Alike}
use Rattle.twin_sessions.specs.QmiServing.{IsServed}

-- so it is for each modem that serves a plan, and each proxy of the plan's device
abbrev pub OfEachServed : (Setup → Answering → QmiPlan → Type 0) → Type 0
OfEachServed P = (s : Setup) (modem : Answering) (plan : QmiPlan) → s.starts_away ≡ false → s.device ≡ encode_utf8_all plan.device → IsServed modem plan → P s modem plan

-- the two sessions end with answers that read alike
abbrev pub SessionsEndAlike : Type 0
SessionsEndAlike = OfEachServed (λ s modem plan. Alike (direct_run (cast_of s modem) plan).end (through_run (cast_of s modem) plan).end)

-- and a proxy can be run on what it meets
abbrev pub SessionsMayCome : Type 0
SessionsMayCome = OfEachServed (λ s modem plan. AreSound (qmi_protocol s) (met (cast_of s modem) plan))
