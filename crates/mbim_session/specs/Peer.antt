-- A session with an MBIM modem as a function of a peer that answers: what it sends, and the message that ends it.
use Rattle.std.specs.Prelude.{◌≡◌, ℕ, ◌+◌, Bool, true, false, not, ◌==◌, ◌&&◌, if◌then◌else◌, is_some, List, [], length, Option, Some, None, Result, Ok, Err}
use Rattle.link_io.specs.Calls.{Call}
use Rattle.mbim_frame.specs.Bodies.{is_done, status_of, buffer_of}
use Rattle.mbim_fields.specs.Layout.{Layout}
use Rattle.mbim_fields.specs.Reading.{Read, read}
use Rattle.mbim_fields.specs.Value.{Value}
use Rattle.mbim_requests.specs.declared.MbimRequest.{MbimRequest}
use Rattle.mbim_services.specs.declared.answers.MbimAnswer.TheVariants.{Success, Failure}
use Rattle.mbim_services.specs.Requests.{sent_by}
use Rattle.link_session.specs.declared.fault.SessionFault.{SessionFault}
use Rattle.link_session.specs.declared.fault.SessionFault.TheVariants as fault
use Rattle.link_session.specs.Marks.{Placed, bytes_in}
use Rattle.link_session.specs.Peer.{Peer, Talk, Finish, LeadsTo, FinishesByPeer, ask_then, nothing_said, said, texts_in}
use Rattle.mbim_session.specs.declared.plan.MbimPlan.{MbimPlan}
use Rattle.mbim_session.specs.declared.plan.MbimEnd.{MbimEnd}
use Rattle.mbim_session.specs.declared.plan.MbimEnd.TheVariants.{Answer, FunctionError}
use Rattle.mbim_session.specs.Requests.{opening, commanding, closing, is_error, pieces}
use Rattle.mbim_session.specs.Answers.{Reads, ReadsOpening, body_with, refusal}
use Rattle.mbim_session.specs.Session.{Session, configuration}

-- ---- what answers say ----

-- what the answer to a command is to a session that goes on by it
pub data Verdict : Type 0 where
  -- it doesn't read
  Unread : Verdict
  -- it reads, and is no success
  Refuses : Verdict
  Succeeds : Verdict

abbrev pub is_read : Verdict → Bool
is_read Unread = false
is_read Refuses = true
is_read Succeeds = true

abbrev pub is_success : Verdict → Bool
is_success Unread = false
is_success Refuses = false
is_success Succeeds = true

abbrev pub reading_verdict : Read (List Value) → Verdict
reading_verdict (Ok values) = Succeeds
reading_verdict (Err fault) = Unread

abbrev pub body_verdict : Layout → (body : List ℕ) → Verdict
body_verdict layout body =
    if is_done body
    then if status_of body == 0 then reading_verdict (read layout (buffer_of body)) else Refuses
    else Unread

abbrev pub error_verdict : (message : List ℕ) → Verdict
error_verdict message = if length message == 16 then Refuses else Unread

-- on the answer to the command with this number that a message completes, behind those before it
unfoldable pub verdict : MbimRequest → ℕ → List Placed → Placed → Verdict
verdict request number before message =
    if is_error number message.bytes
    then error_verdict message.bytes
    else body_verdict (sent_by request).row.done (body_with (pieces number before) message)

-- an answer to an OPEN that reads, and is no refusal
abbrev pub opens : ℕ → List ℕ → Bool
opens number message = not (is_some (refusal number message)) && (length message == 16)

-- ---- the requests of a plan, the last one first ----

-- what ends a session
pub data LastWord : Type 0 where
  -- a request wasn't answered
  Unanswered : (why : SessionFault) → LastWord
  -- the answer to the OPEN with this number
  OfOpen : (number : ℕ) (message : Placed) → LastWord
  -- the answer to the command with this number that the message completes, behind those before it
  OfCommand : (request : MbimRequest) (number : ℕ) (before : List Placed) (message : Placed) → LastWord

abbrev pub unanswered : SessionFault → LastWord
unanswered why = Unanswered why

abbrev pub finish : LastWord → Talk → Finish LastWord
finish word talk = record { end = word; talk = talk }

abbrev pub close_at : Peer → MbimPlan → ℕ → LastWord → Talk → Finish LastWord
close_at peer plan number word talk =
    if plan.close
    then ask_then peer (closing number plan.timeout) talk unanswered (λ before message talk. finish word talk)
    else finish word talk

abbrev pub command_at : Peer → MbimPlan → ℕ → Talk → Finish LastWord
command_at peer plan number talk =
    ask_then peer (commanding plan.request number plan.timeout) talk unanswered (λ before message talk.
    if is_read (verdict plan.request number before message)
    then close_at peer plan (number + 1) (OfCommand plan.request number before message) talk
    else finish (OfCommand plan.request number before message) talk)

abbrev pub open_at : Peer → MbimPlan → ℕ → Talk → Finish LastWord
open_at peer plan number talk =
    ask_then peer (opening number plan.timeout) talk unanswered (λ before message talk.
    if opens number message.bytes
    then command_at peer plan (number + 1) talk
    else finish (OfOpen number message) talk)

abbrev pub configure_at : Peer → MbimPlan → Finish LastWord
configure_at peer plan =
    ask_then peer (commanding (configuration plan) 1 plan.timeout) nothing_said unanswered (λ before message talk.
    if is_success (verdict (configuration plan) 1 before message)
    then open_at peer plan 2 talk
    else finish (OfCommand (configuration plan) 1 before message) talk)

-- the session
unfoldable pub session_at : Peer → MbimPlan → Finish LastWord
session_at peer plan = if plan.proxied then configure_at peer plan else open_at peer plan 1 nothing_said

-- ---- the laws ----

-- what an answer that was read is to a session
abbrev pub verdict_of : MbimEnd → Verdict
verdict_of (Answer (Success shape val)) = Succeeds
verdict_of (Answer (Failure status)) = Refuses
verdict_of (FunctionError code) = Refuses

-- want of memory says nothing of the answer
abbrev pub HasVerdict : Result MbimEnd SessionFault → Verdict → Type 0
HasVerdict (Ok end) given = given ≡ verdict_of end
HasVerdict (Err fault.OutOfMemory) given = Unit {0}
HasVerdict (Err why) given = given ≡ Unread

-- the verdict on an answer is that of what is read of it
abbrev pub VerdictsAreOfWhatIsRead : Type 0
VerdictsAreOfWhatIsRead =
    (request : MbimRequest) (number : ℕ) (before : List Placed) (message : Placed) (result : Result MbimEnd SessionFault)
    → Reads request number before message result → HasVerdict result (verdict request number before message)

abbrev pub EndsAsOpening : Result (Option MbimEnd) SessionFault → Result MbimEnd SessionFault → Type 0
EndsAsOpening (Ok (Some end)) result = result ≡ Ok end
EndsAsOpening (Ok None) result = ⊥
EndsAsOpening (Err why) result = result ≡ Err why

-- the session ends as what ended it reads
abbrev pub EndsWith : Result MbimEnd SessionFault → LastWord → Type 0
EndsWith result (Unanswered why) = result ≡ Err why
EndsWith result (OfOpen number message) = (read : Result (Option MbimEnd) SessionFault) × ReadsOpening number message read × EndsAsOpening read result
EndsWith result (OfCommand request number before message) = Reads request number before message result

-- over any link to a peer, a session sends what it does at the peer, and ends with the same message, however the link cuts the peer's bytes into pieces
abbrev pub SessionsEndAsAtPeers : Type 0
SessionsEndAsAtPeers =
    (peer : Peer) (plan : MbimPlan) (calls : List Call) (result : Result MbimEnd SessionFault)
    → Session plan calls result → LeadsTo peer [] [] calls → FinishesByPeer (said peer [] (texts_in calls)) (bytes_in calls) result
    → EndsWith result (session_at peer plan).end × (texts_in calls ≡ (session_at peer plan).talk.texts)
