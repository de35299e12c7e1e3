-- A session with a QMI modem that an MBIM modem carries messages to as a function of a peer that answers: what it sends, and what ends it.
use Rattle.std.specs.Prelude.{◌≡◌, ℕ, ◌+◌, ◌==◌, if◌then◌else◌, unwrap_or, List, [], Option, Some, None, Result, Ok, Err}
use Rattle.qmux_frame.specs.Head.{tlvs_in}
use Rattle.link_io.specs.Calls.{Call}
use Rattle.qmi_requests.specs.declared.QmiRequest.{QmiRequest}
use Rattle.qmi_requests.specs.declared.QmiRequest.TheVariants.{Allocate, Release}
use Rattle.qmi_services.specs.declared.answers.QmiAnswer.{QmiAnswer}
use Rattle.link_session.specs.declared.fault.SessionFault.{SessionFault}
use Rattle.link_session.specs.Marks.{Placed, bytes_in}
use Rattle.link_session.specs.Peer.{Peer, Talk, Finish, LeadsTo, FinishesByPeer, ask_then, nothing_said, said, texts_in}
use Rattle.mbim_session.specs.declared.plan.MbimEnd.{MbimEnd}
use Rattle.mbim_session.specs.Answers as answers
use Rattle.mbim_session.specs.Peer.{is_success, opens, verdict}
use Rattle.mbim_session.specs.Requests.{closing, commanding, opening}
use Rattle.device_core.specs.declared.plan.QmiPlan.{QmiPlan}
use Rattle.device_core.specs.Requests.{Request, wanted_by}
use Rattle.device_core.specs.Session as qmi
use Rattle.device_core.specs.Session.{allocated_in, command, service}
use Rattle.device_core.specs.Verdict.{reads, succeeds}
use Rattle.tunnel_session.specs.declared.carried.Carried.{Carried}
use Rattle.tunnel_session.specs.declared.carried.Carried.TheVariants as carried
use Rattle.tunnel_session.specs.declared.ends.TunnelEnd.{TunnelEnd}
use Rattle.tunnel_session.specs.Requests.{carrying}
use Rattle.tunnel_session.specs.Carried.{carried_in}
use Rattle.tunnel_session.specs.Session.{Session, configuration, end_with, refusal_in}

-- what ends a session
pub data LastWord : Type 0 where
  -- a request wasn't answered
  Unanswered : (why : SessionFault) → LastWord
  -- the answer to the proxy's configuration
  OfConfiguration : (before : List Placed) (message : Placed) → LastWord
  -- the answer to the OPEN with this number
  OfOpen : (number : ℕ) (message : Placed) → LastWord
  -- what came for a request that was carried, and is no answer to it
  NoAnswer : (came : Result TunnelEnd SessionFault) → LastWord
  -- the answer to this request, which was carried; this service and client id are kept, if any are
  OfAnswer : (request : QmiRequest) (kept : Option (ℕ × ℕ)) (message : Placed) → LastWord

abbrev pub unanswered : SessionFault → LastWord
unanswered why = Unanswered why

abbrev pub finish : LastWord → Talk → Finish LastWord
finish word talk = record { end = word; talk = talk }

-- what follows what came for a request that was carried
abbrev pub came_then : Result Carried SessionFault → Talk → (next : Placed → Talk → Finish LastWord) → Finish LastWord
came_then (Ok (carried.Message message)) talk next = next (record { place = message.place; bytes = message.bytes }) talk
came_then (Ok (carried.Refused end)) talk next = finish (NoAnswer (Ok end)) talk
came_then (Err why) talk next = finish (NoAnswer (Err why)) talk

-- a request is carried in the command with this number, with so many seconds for its answer, and what follows that
abbrev pub carry_then : Peer → Request → (number seconds : ℕ) → Talk → (next : Placed → Talk → Finish LastWord) → Finish LastWord
carry_then peer request number seconds talk next =
    ask_then peer (carrying request number seconds) talk unanswered (λ before message talk. came_then (carried_in (wanted_by request) number before message) talk next)

-- ---- the requests of a plan, the last one first ----

abbrev pub close_at : Peer → LastWord → (number seconds : ℕ) → Talk → Finish LastWord
close_at peer word number seconds talk = ask_then peer (closing number seconds) talk unanswered (λ before message talk. finish word talk)

-- behind this answer to the command
abbrev pub release_at : Peer → QmiPlan → (cid control : ℕ) → Placed → (number : ℕ) → Talk → Finish LastWord
release_at peer plan cid control answer number talk =
    carry_then peer (record { body = Release (service plan) cid; cid = 0; number = control }) number plan.timeout talk (λ message talk. close_at peer (OfAnswer plan.request None answer) (number + 1) plan.timeout talk)

abbrev pub leave_at : Peer → QmiPlan → (cid control : ℕ) → Placed → (number : ℕ) → Talk → Finish LastWord
leave_at peer plan cid control answer number talk =
    if service plan == 0 then close_at peer (OfAnswer plan.request None answer) number plan.timeout talk
    else if plan.keep then close_at peer (OfAnswer plan.request (Some (service plan, cid)) answer) number plan.timeout talk
    else release_at peer plan cid control answer number talk

abbrev pub command_at : Peer → QmiPlan → (cid control number : ℕ) → Talk → Finish LastWord
command_at peer plan cid control number talk =
    carry_then peer (command plan cid control) number plan.timeout talk (λ message talk.
    if reads plan.request message.bytes
    then leave_at peer plan cid control message (number + 1) talk
    else finish (OfAnswer plan.request None message) talk)

-- one that reads and is no success is followed by CLOSE
abbrev pub take_at : Peer → QmiPlan → Placed → (number : ℕ) → Talk → Finish LastWord
take_at peer plan message number talk =
    if succeeds (Allocate (service plan)) message.bytes then command_at peer plan (unwrap_or (allocated_in (tlvs_in message.bytes)) 0) 2 number talk
    else if reads (Allocate (service plan)) message.bytes then close_at peer (OfAnswer (Allocate (service plan)) None message) number plan.timeout talk
    else finish (OfAnswer (Allocate (service plan)) None message) talk

abbrev pub allocate_at : Peer → QmiPlan → (number : ℕ) → Talk → Finish LastWord
allocate_at peer plan number talk =
    carry_then peer (record { body = Allocate (service plan); cid = 0; number = 1 }) number plan.timeout talk (λ message talk. take_at peer plan message (number + 1) talk)

abbrev pub given_at : Peer → QmiPlan → (cid : Option ℕ) → (number : ℕ) → Talk → Finish LastWord
given_at peer plan (Some cid) number talk = command_at peer plan cid 1 number talk
given_at peer plan None number talk = allocate_at peer plan number talk

abbrev pub choose_at : Peer → QmiPlan → (number : ℕ) → Talk → Finish LastWord
choose_at peer plan number talk =
    if service plan == 0
    then command_at peer plan 0 1 number talk
    else given_at peer plan plan.cid number talk

abbrev pub open_at : Peer → QmiPlan → (number : ℕ) → Talk → Finish LastWord
open_at peer plan number talk =
    ask_then peer (opening number plan.timeout) talk unanswered (λ before message talk.
    if opens number message.bytes
    then choose_at peer plan (number + 1) talk
    else finish (OfOpen number message) talk)

abbrev pub configure_at : Peer → QmiPlan → Finish LastWord
configure_at peer plan =
    ask_then peer (commanding (configuration plan) 1 plan.timeout) nothing_said unanswered (λ before message talk.
    if is_success (verdict (configuration plan) 1 before message)
    then open_at peer plan 2 talk
    else finish (OfConfiguration before message) talk)

-- the session
unfoldable pub tunnel_at : Peer → QmiPlan → Finish LastWord
tunnel_at peer plan = if plan.proxied then configure_at peer plan else open_at peer plan 1 nothing_said

-- ---- the law ----

-- the MBIM modem or the proxy has refused, or doesn't read
abbrev pub EndsAsRefusal : Option TunnelEnd → Result TunnelEnd SessionFault → Type 0
EndsAsRefusal (Some end) result = result ≡ Ok end
EndsAsRefusal None result = ⊥

abbrev pub EndsAsConfiguration : Result MbimEnd SessionFault → Result TunnelEnd SessionFault → Type 0
EndsAsConfiguration (Ok end) result = EndsAsRefusal (refusal_in end) result
EndsAsConfiguration (Err why) result = result ≡ Err why

abbrev pub EndsAsOpening : Result (Option MbimEnd) SessionFault → Result TunnelEnd SessionFault → Type 0
EndsAsOpening (Ok (Some end)) result = EndsAsRefusal (refusal_in end) result
EndsAsOpening (Ok None) result = ⊥
EndsAsOpening (Err why) result = result ≡ Err why

abbrev pub EndsAs : Result QmiAnswer SessionFault → Option (ℕ × ℕ) → Result TunnelEnd SessionFault → Type 0
EndsAs (Ok answer) kept result = result ≡ Ok (end_with answer kept)
EndsAs (Err why) kept result = result ≡ Err why

-- the session ends as what ended it reads
abbrev pub EndsWith : Result TunnelEnd SessionFault → LastWord → QmiPlan → Type 0
EndsWith result (Unanswered why) plan = result ≡ Err why
EndsWith result (OfConfiguration before message) plan = (read : Result MbimEnd SessionFault) × answers.Reads (configuration plan) 1 before message read × EndsAsConfiguration read result
EndsWith result (OfOpen number message) plan = (read : Result (Option MbimEnd) SessionFault) × answers.ReadsOpening number message read × EndsAsOpening read result
EndsWith result (NoAnswer came) plan = result ≡ came
EndsWith result (OfAnswer request kept message) plan = (read : Result QmiAnswer SessionFault) × qmi.Reads request message read × EndsAs read kept result

-- over any link to a peer, a session sends what it does at the peer, and ends with the same message, however the link cuts the peer's bytes into pieces
abbrev pub SessionsEndAsAtPeers : Type 0
SessionsEndAsAtPeers =
    (peer : Peer) (plan : QmiPlan) (calls : List Call) (result : Result TunnelEnd SessionFault)
    → Session plan calls result → LeadsTo peer [] [] calls → FinishesByPeer (said peer [] (texts_in calls)) (bytes_in calls) result
    → EndsWith result (tunnel_at peer plan).end plan × (texts_in calls ≡ (tunnel_at peer plan).talk.texts)
