-- What an MBIM tool ends with that is alone, at a modem itself and through a proxy.
use Rattle.std.specs.Prelude.{ℕ}
use Rattle.proxy_history.specs.Coming.{AreSound}
use Rattle.mbim_proxy.specs.History.{mbim_protocol}
use Rattle.mbim_session.specs.declared.plan.MbimPlan.{MbimPlan}
use Rattle.lone_client.specs.Relay.{Answering, Cast}
use Rattle.lone_client.specs.MbimLaw as lone
use Rattle.twin_sessions.specs.MbimRuns.{direct_run, through_run, met, Alike}
use Rattle.twin_sessions.specs.MbimServing.{IsPlan, IsServed}

-- so it is for each plan and each modem that serves it, behind a proxy of the plan's device
abbrev pub OfEachServed : (ℕ → Answering → MbimPlan → Type 0) → Type 0
OfEachServed P = (time_limit : ℕ) (modem : Answering) (plan : MbimPlan) → IsPlan plan → IsServed modem plan → P time_limit modem plan

abbrev pub cast_of : ℕ → Answering → MbimPlan → Cast
cast_of time_limit modem plan = lone.cast plan.device time_limit modem

-- the two sessions end with answers that carry the same body
abbrev pub SessionsEndAlike : Type 0
SessionsEndAlike = OfEachServed (λ time_limit modem plan. Alike (direct_run (cast_of time_limit modem plan) plan).end (through_run (cast_of time_limit modem plan) plan).end)

-- and a proxy can be run on what it meets
abbrev pub SessionsMayCome : Type 0
SessionsMayCome = OfEachServed (λ time_limit modem plan. AreSound (mbim_protocol (lone.setup plan.device time_limit modem)) (met (cast_of time_limit modem plan) plan))
