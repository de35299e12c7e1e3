-- A session with a QMI modem as a function of a peer that answers: what it sends, and the message that ends it.
use Rattle.std.specs.Prelude.{◌≡◌, ℕ, ◌+◌, ◌==◌, if◌then◌else◌, unwrap_or, List, [], Option, Some, None, Result, Ok, Err}
use Rattle.qmux_frame.specs.Head.{is_framed, tlvs_in}
use Rattle.link_io.specs.Calls.{Call}
use Rattle.qmi_requests.specs.declared.QmiRequest.{QmiRequest}
use Rattle.qmi_requests.specs.declared.QmiRequest.TheVariants.{ProxyOpen, Allocate}
use Rattle.qmi_services.specs.declared.answers.QmiAnswer.{QmiAnswer}
use Rattle.qmi_services.specs.declared.answers.QmiEnd.{QmiEnd}
use Rattle.link_session.specs.declared.fault.SessionFault.{SessionFault}
use Rattle.link_session.specs.declared.fault.SessionFault.TheVariants as fault
use Rattle.link_session.specs.Marks.{Placed, bytes_in}
use Rattle.link_session.specs.Peer.{Peer, Talk, Finish, LeadsTo, FinishesByPeer, ask_then, nothing_said, said, texts_in}
use Rattle.device_core.specs.declared.plan.QmiPlan.{QmiPlan}
use Rattle.device_core.specs.Requests.{asked}
use Rattle.device_core.specs.Session.{Reads, Session, service, proxy_open, allocate, allocated_in, command, release, end_with}
use Rattle.device_core.specs.Verdict.{reads, succeeds}

-- what ends a session
pub data LastWord : Type 0 where
  -- a request wasn't answered
  Unanswered : (why : SessionFault) → LastWord
  -- the answer to this request; this service and client id are kept, if any are
  OfAnswer : (request : QmiRequest) (kept : Option (ℕ × ℕ)) (message : Placed) → LastWord
  -- the answer to the release, which isn't framed
  Unframed : (message : Placed) → LastWord

abbrev pub unanswered : SessionFault → LastWord
unanswered why = Unanswered why

abbrev pub finish : LastWord → Talk → Finish LastWord
finish word talk = record { end = word; talk = talk }

-- ---- the requests of a plan, the last one first ----

-- behind this answer to the command the client id is given back
abbrev pub release_at : Peer → QmiPlan → (cid number : ℕ) → Placed → Talk → Finish LastWord
release_at peer plan cid number message talk =
    ask_then peer (asked plan.timeout (release plan cid number)) talk unanswered (λ before last talk.
    if is_framed last.bytes
    then finish (OfAnswer plan.request None message) talk
    else finish (Unframed last) talk)

-- behind this answer to the command the session is left
abbrev pub leave_at : Peer → QmiPlan → (cid number : ℕ) → Placed → Talk → Finish LastWord
leave_at peer plan cid number message talk =
    if service plan == 0 then finish (OfAnswer plan.request None message) talk
    else if plan.keep then finish (OfAnswer plan.request (Some (service plan, cid)) message) talk
    else release_at peer plan cid number message talk

-- the command with this client id, from the number of the next request to service 0 on
abbrev pub command_at : Peer → QmiPlan → (cid number : ℕ) → Talk → Finish LastWord
command_at peer plan cid number talk =
    ask_then peer (asked plan.timeout (command plan cid number)) talk unanswered (λ before message talk.
    if reads plan.request message.bytes
    then leave_at peer plan cid number message talk
    else finish (OfAnswer plan.request None message) talk)

-- a client id is allocated first
abbrev pub allocate_at : Peer → QmiPlan → (number : ℕ) → Talk → Finish LastWord
allocate_at peer plan number talk =
    ask_then peer (asked plan.timeout (allocate plan number)) talk unanswered (λ before message talk.
    if succeeds (Allocate (service plan)) message.bytes
    then command_at peer plan (unwrap_or (allocated_in (tlvs_in message.bytes)) 0) (number + 1) talk
    else finish (OfAnswer (Allocate (service plan)) None message) talk)

-- the client id is given, or allocated
abbrev pub given_at : Peer → QmiPlan → (cid : Option ℕ) → (number : ℕ) → Talk → Finish LastWord
given_at peer plan (Some cid) number talk = command_at peer plan cid number talk
given_at peer plan None number talk = allocate_at peer plan number talk

-- the requests to the modem
abbrev pub choose_at : Peer → QmiPlan → (number : ℕ) → Talk → Finish LastWord
choose_at peer plan number talk =
    if service plan == 0
    then command_at peer plan 0 number talk
    else given_at peer plan plan.cid number talk

-- the proxy is asked for the device first
abbrev pub proxy_at : Peer → QmiPlan → Finish LastWord
proxy_at peer plan =
    ask_then peer (asked plan.timeout (proxy_open plan)) nothing_said unanswered (λ before message talk.
    if succeeds (ProxyOpen plan.device) message.bytes
    then choose_at peer plan 2 talk
    else finish (OfAnswer (ProxyOpen plan.device) None message) talk)

-- the session
unfoldable pub session_at : Peer → QmiPlan → Finish LastWord
session_at peer plan = if plan.proxied then proxy_at peer plan else choose_at peer plan 1 nothing_said

-- ---- the law ----

-- the session ends with the answer that was read, or breaks by it
abbrev pub EndsAs : Result QmiAnswer SessionFault → Option (ℕ × ℕ) → Result QmiEnd SessionFault → Type 0
EndsAs (Ok answer) kept result = result ≡ end_with answer kept
EndsAs (Err why) kept result = result ≡ Err why

-- the session ends as what ended it reads
abbrev pub EndsWith : Result QmiEnd SessionFault → LastWord → Type 0
EndsWith result (Unanswered why) = result ≡ Err why
EndsWith result (OfAnswer request kept message) = (read : Result QmiAnswer SessionFault) × Reads request message read × EndsAs read kept result
EndsWith result (Unframed message) = result ≡ Err (fault.Broken message.place)

-- over any link to a peer, a session sends what it does at the peer, and ends with the same message, however the link cuts the peer's bytes into pieces
abbrev pub SessionsEndAsAtPeers : Type 0
SessionsEndAsAtPeers =
    (peer : Peer) (plan : QmiPlan) (calls : List Call) (result : Result QmiEnd SessionFault)
    → Session plan calls result → LeadsTo peer [] [] calls → FinishesByPeer (said peer [] (texts_in calls)) (bytes_in calls) result
    → EndsWith result (session_at peer plan).end × (texts_in calls ≡ (session_at peer plan).talk.texts)
