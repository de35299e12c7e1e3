-- A tool's whole session for a request that is given by its TLVs, as a script; the requests to service 0 are numbered from 1.
-- Source: the order in which libqmi's qmi_device_open and qmi_device_allocate_client (src/libqmi-glib/qmi-device.c) and qmicli ask.
use Rattle.std.specs.Prelude.{ℕ, ◌+◌, ◌==◌, if◌then◌else◌, unwrap_or, List, Option, Some, None, Result, Ok, Err}
use Rattle.qmux_frame.specs.Head.{is_framed, tlvs_in}
use Rattle.tlv_codec.specs.declared.outcome.Outcome.{Outcome}
use Rattle.tlv_codec.specs.Outcome.{outcome_in}
use Rattle.qmi_requests.specs.declared.QmiRequest.{QmiRequest}
use Rattle.qmi_requests.specs.declared.QmiRequest.TheVariants.{ProxyOpen, Allocate, Release}
use Rattle.link_session.specs.declared.fault.SessionFault.{SessionFault}
use Rattle.link_session.specs.declared.fault.SessionFault.TheVariants as fault
use Rattle.link_session.specs.Marks.{Placed}
use Rattle.session_script.specs.Script.{Script, Ends, Asks, behind}
use Rattle.device_core.specs.Requests as device
use Rattle.device_core.specs.Session.{allocated_in}
use Rattle.device_core.specs.Verdict.{reads, succeeds}
use Rattle.request_session.specs.declared.plan.RequestPlan.{RequestPlan}
use Rattle.request_session.specs.declared.ends.RequestEnd.{RequestEnd}
use Rattle.request_session.specs.declared.ends.RequestEnd.TheVariants.{NotSent, Answered}
use Rattle.request_session.specs.declared.ends.TlvAnswer.{TlvAnswer}
use Rattle.request_session.specs.declared.client.Client.{Client}
use Rattle.request_session.specs.declared.client.Access.{Access}
use Rattle.request_session.specs.declared.client.Access.TheVariants as access
use Rattle.request_session.specs.Requests.{asked}

-- an answer that isn't what it should be breaks the session where it begins
abbrev pub broken : {E : Type 0} → Placed → Result E SessionFault
broken message = Err (fault.Broken message.place)

-- ---- requests to service 0 ----

abbrev pub control : (seconds : ℕ) → QmiRequest → (number : ℕ) → (Placed → Script Access) → Script Access
control seconds body number next = Asks (device.asked seconds (record { body = body; cid = 0; number = number })) (λ before message. next message)

abbrev pub error_of : Option Outcome → ℕ
error_of None = 0
error_of (Some outcome) = outcome.error

-- a success is followed by this, and a failure ends the session
abbrev pub on_success : QmiRequest → Placed → Script Access → Script Access
on_success body message next =
    if succeeds body message.bytes then next
    else if reads body message.bytes then Ends (Ok (access.Refused (error_of (outcome_in (tlvs_in message.bytes)))))
    else Ends (broken message)

-- ---- the client id of the request, and the number of the next request to service 0 ----

abbrev pub client_of : (id next : ℕ) → Script Access
client_of id next = Ends (Ok (access.Client (record { id = id; next = next })))

-- the client id that an answer allocates
abbrev pub allocated : List ℕ → ℕ
allocated message = unwrap_or (allocated_in (tlvs_in message)) 0

abbrev pub allocate : RequestPlan → (number : ℕ) → Script Access
allocate plan number =
    control plan.timeout (Allocate plan.request.service) number (λ message.
    on_success (Allocate plan.request.service) message (client_of (allocated message.bytes) (number + 1)))

abbrev pub given_or_allocated : RequestPlan → Option ℕ → (number : ℕ) → Script Access
given_or_allocated plan (Some id) number = client_of id number
given_or_allocated plan None number = allocate plan number

-- service 0 has no client ids
abbrev pub take_client : RequestPlan → (number : ℕ) → Script Access
take_client plan number = if plan.request.service == 0 then client_of 0 number else given_or_allocated plan plan.cid number

-- the proxy is asked for the device first
abbrev pub reach_by_proxy : RequestPlan → Script Access
reach_by_proxy plan = control plan.timeout (ProxyOpen plan.device) 1 (λ message. on_success (ProxyOpen plan.device) message (take_client plan 2))

abbrev pub reach : RequestPlan → Script Access
reach plan = if plan.proxied then reach_by_proxy plan else take_client plan 1

-- ---- the request ----

-- an answer is framed, and its TLVs have a Result
abbrev pub answer_with : Placed → Option Outcome → Result TlvAnswer SessionFault
answer_with message None = broken message
answer_with message (Some outcome) = Ok (record { outcome = outcome; tlvs = tlvs_in message.bytes })

abbrev pub answer_in : Placed → Result TlvAnswer SessionFault
answer_in message = if is_framed message.bytes then answer_with message (outcome_in (tlvs_in message.bytes)) else broken message

-- the requests to service 0 have one row of numbers; one of another service is its first
abbrev pub number_of : RequestPlan → Client → ℕ
number_of plan client = if plan.request.service == 0 then client.next else 1

abbrev pub request : RequestPlan → Client → Script TlvAnswer
request plan client = Asks (asked plan.timeout plan.request client.id (number_of plan client)) (λ before message. Ends (answer_in message))

-- ---- what becomes of the client id ----

-- the answer to Release must be framed, and isn't read
abbrev pub released : Placed → Result (Option (ℕ × ℕ)) SessionFault
released message = if is_framed message.bytes then Ok None else broken message

abbrev pub release : RequestPlan → Client → Script (Option (ℕ × ℕ))
release plan client =
    Asks (device.asked plan.timeout (record { body = Release plan.request.service client.id; cid = 0; number = client.next }))
    (λ before message. Ends (released message))

-- it is given back unless it is kept, and the service and the client id are told that are kept
abbrev pub leave : RequestPlan → Client → Script (Option (ℕ × ℕ))
leave plan client =
    if plan.request.service == 0 then Ends (Ok None)
    else if plan.keep then Ends (Ok (Some (plan.request.service, client.id)))
    else release plan client

-- ---- the session ----

abbrev pub ask : RequestPlan → Client → Script RequestEnd
ask plan client = behind (λ answer. behind (λ kept. Ends (Ok (Answered answer kept))) (leave plan client)) (request plan client)

-- a failure before the request ends the session
abbrev pub ask_as : RequestPlan → Access → Script RequestEnd
ask_as plan (access.Client client) = ask plan client
ask_as plan (access.Refused error) = Ends (Ok (NotSent error))

unfoldable pub session : RequestPlan → Script RequestEnd
session plan = behind (ask_as plan) (reach plan)
