-- A tool's whole session with an MBIM modem: the requests of a plan, numbered from 1, each behind the answer to the one before, and how it ends.
-- Source: the order in which libmbim's mbim_device_open_full and mbim_device_close (src/libmbim-glib/mbim-device.c) and mbimcli ask.
use Rattle.std.specs.Prelude.{◌≡◌, ℕ, ◌+◌, true, false, List, Option, Some, None, Result, Ok, Err}
use Rattle.link_io.specs.Calls.{Call}
use Rattle.mbim_requests.specs.declared.MbimRequest.{MbimRequest}
use Rattle.mbim_requests.specs.declared.MbimRequest.TheVariants.{ProxyConfiguration}
use Rattle.mbim_services.specs.declared.answers.MbimAnswer.TheVariants.{Success, Failure}
use Rattle.link_session.specs.declared.fault.SessionFault.{SessionFault}
use Rattle.link_session.specs.declared.fault.SessionFault.TheVariants as fault
use Rattle.link_session.specs.Waiting.{Heard, nothing_heard}
use Rattle.link_session.specs.Asking.{Stops, Step, ReadsThen}
use Rattle.mbim_session.specs.declared.plan.MbimPlan.{MbimPlan}
use Rattle.mbim_session.specs.declared.plan.MbimEnd.{MbimEnd}
use Rattle.mbim_session.specs.declared.plan.MbimEnd.TheVariants.{Answer, FunctionError}
use Rattle.mbim_session.specs.Requests.{opening, commanding, closing}
use Rattle.mbim_session.specs.Answers.{Reads, ReadsOpening}

-- what ends the session before the command
abbrev pub UnlessRefused : {E : Type 0} → Option E → List Call → Result E SessionFault → Type 0 → Type 0
UnlessRefused None calls result Then = Then
UnlessRefused (Some end) calls result Then = Stops (Ok end) calls result

-- what isn't a success of the proxy's configuration
abbrev pub refusal_in : MbimEnd → Option MbimEnd
refusal_in (Answer (Success shape val)) = None
refusal_in (Answer (Failure status)) = Some (Answer (Failure status))
refusal_in (FunctionError code) = Some (FunctionError code)

-- ---- the requests of a plan, the last one first ----

-- what answers a CLOSE isn't looked at
pub data Closes (plan : MbimPlan) (number : ℕ) (end : MbimEnd) (heard : Heard) (calls : List Call) (result : Result MbimEnd SessionFault) : Type 0 where
  leaving : plan.close ≡ false → Stops (Ok end) calls result → Closes plan number end heard calls result
  closed : plan.close ≡ true → Step (closing number plan.timeout) heard calls result (λ before message later more. Stops (Ok end) more result) → Closes plan number end heard calls result

-- whatever it comes to
abbrev pub Commands : MbimPlan → ℕ → Heard → List Call → Result MbimEnd SessionFault → Type 0
Commands plan number heard calls result =
    Step (commanding plan.request number plan.timeout) heard calls result (λ before message later more.
    ReadsThen (Reads plan.request number before message) more result (λ end. Closes plan (number + 1) end later more result))

abbrev pub Opens : MbimPlan → ℕ → Heard → List Call → Result MbimEnd SessionFault → Type 0
Opens plan number heard calls result =
    Step (opening number plan.timeout) heard calls result (λ before message later more.
    ReadsThen (ReadsOpening number message) more result (λ refused. UnlessRefused refused more result (Commands plan (number + 1) later more result)))

abbrev pub configuration : MbimPlan → MbimRequest
configuration plan = ProxyConfiguration plan.device

-- the session, with all its calls
pub data Session (plan : MbimPlan) (calls : List Call) (result : Result MbimEnd SessionFault) : Type 0 where
  no_memory : Stops (Err fault.OutOfMemory) calls result → Session plan calls result
  direct : plan.proxied ≡ false → Opens plan 1 nothing_heard calls result → Session plan calls result
  proxied : plan.proxied ≡ true
      → Step (commanding (configuration plan) 1 plan.timeout) nothing_heard calls result (λ before message later more.
      ReadsThen (Reads (configuration plan) 1 before message) more result (λ end. UnlessRefused (refusal_in end) more result (Opens plan 2 later more result)))
      → Session plan calls result
