-- Over a link to a peer a session ends as at the peer.
use Rattle.std.proofs.Common.{◌≡◌, ◌≢◌, ◌⊎◌, inl, inr, ℕ, if◌then◌else◌, ◌+◌, Bool, true, false, ◌==◌, ◌&&◌, List, length, Option, Some, None, Result, Ok, Err, refl, sym, subst, arith}
use Rattle.std.proofs.lemmas.Bool.Decides.{nat_tests}
use Rattle.link_io.specs.Calls.{Call}
use Rattle.mbim_frame.specs.Frame.{size_of}
use Rattle.mbim_frame.specs.Framing.{size_of-kept}
use Rattle.mbim_frame.specs.Bodies.{is_done, status_of, buffer_of}
use Rattle.mbim_fields.specs.Layout.{Layout}
use Rattle.mbim_fields.specs.Reading.{Read, read}
use Rattle.mbim_fields.specs.Value.{Value, list_of}
use Rattle.mbim_fields.specs.View.{val_view}
use Rattle.mbim_fields.proofs.Agreement.{read-stand, stand-read}
use Rattle.mbim_requests.specs.declared.MbimRequest.{MbimRequest}
use Rattle.mbim_services.specs.declared.answers.AnswerFault.TheVariants as answer
use Rattle.mbim_services.specs.declared.answers.MbimAnswer.TheVariants.{Success, Failure}
use Rattle.mbim_services.specs.Answers.{Answers}
use Rattle.mbim_services.specs.Requests.{sent_by}
use Rattle.link_session.specs.declared.fault.SessionFault.{SessionFault}
use Rattle.link_session.specs.declared.fault.SessionFault.TheVariants as fault
use Rattle.link_session.specs.Marks.{Placed}
use Rattle.link_session.specs.Waiting.{Heard, nothing_heard}
use Rattle.link_session.specs.Asking.{Stops, AfterReading}
use Rattle.link_session.specs.Peer.{Peer, Talk, Finish, nothing_said}
use Rattle.link_session.proofs.Peers.{AsAtPeer, AsAtPeer-no_memory, AsAtPeer-start, AsAtPeer-step, AsAtPeer-stops}
use Rattle.mbim_session.specs.declared.plan.MbimPlan.{MbimPlan}
use Rattle.mbim_session.specs.declared.plan.MbimEnd.{MbimEnd}
use Rattle.mbim_session.specs.declared.plan.MbimEnd.TheVariants.{Answer, FunctionError}
use Rattle.mbim_session.specs.Requests.{is_error, pieces}
use Rattle.mbim_session.specs.Answers.{Reads, ReadsAs, ReadsOpening, body_with}
use Rattle.mbim_session.specs.Session.{Closes, leaving, closed, Commands, Opens, Session, no_memory, direct, proxied, UnlessRefused, configuration, refusal_in}
use Rattle.mbim_session.specs.Peer.{Verdict, Unread, Refuses, Succeeds, HasVerdict, LastWord, OfOpen, OfCommand, EndsWith, SessionsEndAsAtPeers, VerdictsAreOfWhatIsRead, body_verdict, close_at, command_at, error_verdict, finish, open_at, opens, reading_verdict, session_at, unanswered, verdict, is_read, is_success}
use Rattle.mbim_session.proofs.Sending.{is_then, is_else}

false_if : (b c : Bool) → c ≡ false → b && c ≡ false
false_if true c is = is
false_if false c is = refl

isnt : (n m : ℕ) → n ≢ m → (n == m) ≡ false
isnt n m differ = grind (arith, nat_tests, differ)

-- ---- what answers say ----

module _ (request : MbimRequest) (pieces : List Placed) (message : Placed) where
  layout : Layout
  layout = (sent_by request).row.done

  body : List ℕ
  body = body_with pieces message

  unread : (is_done body ≡ false) ⊎ Answers layout (status_of body) (buffer_of body) (Err answer.Unread) → body_verdict layout body ≡ Unread
  unread (inl broken) = rw broken refl
  unread (inr (well, none)) =
      let buffer : List ℕ = buffer_of body in
      let by_read : (r : Read (List Value)) → read layout buffer ≡ r → reading_verdict r ≡ Unread = λ r. elim r as (λ r. read layout buffer ≡ r → reading_verdict r ≡ Unread) [
        | Ok values ↦ λ is. absurd (none values (read-stand layout values buffer is))
        | Err fault ↦ λ is. refl
      ] in
      let by_done : (b : Bool) → (if b then if status_of body == 0 then reading_verdict (read layout buffer) else Refuses else Unread) ≡ Unread =
      λ b. elim b as (λ b. (if b then if status_of body == 0 then reading_verdict (read layout buffer) else Refuses else Unread) ≡ Unread) [
        | true ↦ rw well (by_read (read layout buffer) refl)
        | false ↦ refl
      ] in
      by_done (is_done body)

  verdict_by : (error : Bool) (result : Result MbimEnd SessionFault) → ReadsAs error request pieces message result → HasVerdict result (if error then error_verdict message.bytes else body_verdict layout body)
  unfolding layout body
  verdict_by true (Ok (FunctionError code)) reads = rw reads.0 refl
  verdict_by true (Ok (Answer answer)) reads = absurd reads
  verdict_by true (Err (fault.Broken place)) reads = rw (isnt (length message.bytes) 16 reads.0) refl
  verdict_by true (Err fault.OutOfMemory) reads = tt
  verdict_by true (Err why) reads = absurd reads
  verdict_by false (Ok (Answer (Success shape val))) reads = rw (reads.0, reads.1.0, stand-read layout (list_of (val_view val)) (buffer_of body) reads.1.2) refl
  verdict_by false (Ok (Answer (Failure code))) reads = rw (reads.0, isnt (status_of body) 0 reads.1.0) refl
  verdict_by false (Ok (FunctionError code)) reads = absurd reads
  verdict_by false (Err (fault.Broken place)) reads = unread reads.1
  verdict_by false (Err fault.OutOfMemory) reads = tt
  verdict_by false (Err why) reads = absurd reads

pub verdicts_are_of_what_is_read : VerdictsAreOfWhatIsRead
unfolding verdict layout body
verdicts_are_of_what_is_read request number before message result reads = verdict_by request (pieces number before) message (is_error number message.bytes) result reads

-- ---- the requests of a plan, the last one first ----

module _ (peer : Peer) (plan : MbimPlan) (result : Result MbimEnd SessionFault) where
  -- a session's calls that end as at the peer
  abbrev pub As : Talk → Heard → List Call → Finish LastWord → Type 0
  As talk heard calls end = AsAtPeer peer size_of (EndsWith result) talk heard calls result end

  As-stops : {talk : Talk} {heard : Heard} {calls : List Call} (stop : Result MbimEnd SessionFault) (word : LastWord) → Stops stop calls result → EndsWith stop word → As talk heard calls (finish word talk)
  As-stops stop word stops ends = AsAtPeer-stops peer size_of stops (λ same. subst (λ (r : Result MbimEnd SessionFault). EndsWith r word) (sym same) ends)

  Closes-as : {number : ℕ} {end : MbimEnd} {talk : Talk} {heard : Heard} {calls : List Call} (word : LastWord) → EndsWith (Ok end) word → Closes plan number end heard calls result → As talk heard calls (close_at peer plan number word talk)
  Closes-as {end = end} {talk = talk} {heard = heard} {calls = calls} word ends (leaving is stops) = subst (As talk heard calls) (is_else _ _ plan.close is) (As-stops (Ok end) word stops ends)
  Closes-as {end = end} {talk = talk} {heard = heard} {calls = calls} word ends (closed is step) =
      subst (As talk heard calls) (is_then _ _ plan.close is)
      (AsAtPeer-step peer size_of-kept unanswered (λ before message talk. finish word talk) step (λ why same. same) (λ before message later more talk stops. As-stops (Ok end) word stops ends))

  -- the answer to the command
  command_read : (number : ℕ) (before : List Placed) (message : Placed) {talk : Talk} {heard : Heard} {calls : List Call} (read : Result MbimEnd SessionFault) (given : Verdict)
      → HasVerdict read given → Reads plan.request number before message read → AfterReading read calls result (λ end. Closes plan (number + 1) end heard calls result)
      → As talk heard calls
      (if is_read given
      then close_at peer plan (number + 1) (OfCommand plan.request number before message) talk
      else finish (OfCommand plan.request number before message) talk)
  command_read number before message (Ok (Answer (Success shape val))) Unread has reads follows = absurd (cc)
  command_read number before message (Ok (Answer (Failure status))) Unread has reads follows = absurd (cc)
  command_read number before message (Ok (FunctionError code)) Unread has reads follows = absurd (cc)
  command_read number before message (Ok end) Refuses has reads follows = Closes-as (OfCommand plan.request number before message) reads follows
  command_read number before message (Ok end) Succeeds has reads follows = Closes-as (OfCommand plan.request number before message) reads follows
  command_read number before message (Err why) Unread has reads follows = As-stops (Err why) (OfCommand plan.request number before message) follows reads
  command_read number before message (Err fault.OutOfMemory) Refuses has reads follows = AsAtPeer-no_memory peer size_of follows
  command_read number before message (Err fault.OutOfMemory) Succeeds has reads follows = AsAtPeer-no_memory peer size_of follows
  command_read number before message (Err why) Refuses has reads follows = absurd (cc)
  command_read number before message (Err why) Succeeds has reads follows = absurd (cc)

  Commands-as : (number : ℕ) {talk : Talk} {heard : Heard} {calls : List Call} → Commands plan number heard calls result → As talk heard calls (command_at peer plan number talk)
  Commands-as number commands =
      AsAtPeer-step peer size_of-kept unanswered _ commands (λ why same. same) (λ before message later more talk reads.
      command_read number before message reads.read (verdict plan.request number before message) (verdicts_are_of_what_is_read plan.request number before message reads.read reads.reads) reads.reads reads.follows)

  -- the answer to an OPEN
  opening_read : (number : ℕ) (message : Placed) {talk : Talk} {heard : Heard} {calls : List Call} (read : Result (Option MbimEnd) SessionFault) → ReadsOpening number message read
      → AfterReading read calls result (λ refused. UnlessRefused refused calls result (Commands plan (number + 1) heard calls result))
      → As talk heard calls (if opens number message.bytes then command_at peer plan (number + 1) talk else finish (OfOpen number message) talk)
  opening_read number message {talk = talk} {heard = heard} {calls = calls} (Ok None) reads follows =
      let goes_on : opens number message.bytes ≡ true = rw (← reads.1, reads.0) refl in
      subst (As talk heard calls) (is_then _ _ (opens number message.bytes) goes_on) (Commands-as (number + 1) follows)
  opening_read number message {talk = talk} {heard = heard} {calls = calls} (Ok (Some end)) reads follows =
      let stays : opens number message.bytes ≡ false = rw (← reads.1) refl in
      subst (As talk heard calls) (is_else _ _ (opens number message.bytes) stays) (As-stops (Ok end) (OfOpen number message) follows (Ok (Some end), reads, refl))
  opening_read number message {talk = talk} {heard = heard} {calls = calls} (Err (fault.Broken place)) reads follows =
      let stays : opens number message.bytes ≡ false = false_if _ (length message.bytes == 16) (isnt (length message.bytes) 16 reads.0) in
      subst (As talk heard calls) (is_else _ _ (opens number message.bytes) stays) (As-stops (Err (fault.Broken place)) (OfOpen number message) follows (Err (fault.Broken place), reads, refl))
  opening_read number message (Err why) reads follows = absurd reads

  Opens-as : (number : ℕ) {talk : Talk} {heard : Heard} {calls : List Call} → Opens plan number heard calls result → As talk heard calls (open_at peer plan number talk)
  Opens-as number step =
      AsAtPeer-step peer size_of-kept unanswered _ step (λ why same. same) (λ before message later more talk reads. opening_read number message reads.read reads.reads reads.follows)

  -- the answer to the proxy's configuration
  configuration_read : (before : List Placed) (message : Placed) {talk : Talk} {heard : Heard} {calls : List Call} (read : Result MbimEnd SessionFault) (given : Verdict)
      → HasVerdict read given → Reads (configuration plan) 1 before message read → AfterReading read calls result (λ end. UnlessRefused (refusal_in end) calls result (Opens plan 2 heard calls result))
      → As talk heard calls (if is_success given then open_at peer plan 2 talk else finish (OfCommand (configuration plan) 1 before message) talk)
  configuration_read before message (Ok (Answer (Success shape val))) Succeeds has reads follows = Opens-as 2 follows
  configuration_read before message (Ok (Answer (Failure status))) Refuses has reads follows = As-stops (Ok (Answer (Failure status))) (OfCommand (configuration plan) 1 before message) follows reads
  configuration_read before message (Ok (FunctionError code)) Refuses has reads follows = As-stops (Ok (FunctionError code)) (OfCommand (configuration plan) 1 before message) follows reads
  configuration_read before message (Err why) Unread has reads follows = As-stops (Err why) (OfCommand (configuration plan) 1 before message) follows reads
  configuration_read before message (Err fault.OutOfMemory) Refuses has reads follows = AsAtPeer-no_memory peer size_of follows
  configuration_read before message (Err fault.OutOfMemory) Succeeds has reads follows = AsAtPeer-no_memory peer size_of follows
  configuration_read before message (Ok (Answer (Success shape val))) given has reads follows = absurd (cc)
  configuration_read before message (Ok (Answer (Failure status))) given has reads follows = absurd (cc)
  configuration_read before message (Ok (FunctionError code)) given has reads follows = absurd (cc)
  configuration_read before message (Err why) given has reads follows = absurd (cc)

  Session-as : {calls : List Call} → Session plan calls result → As nothing_said nothing_heard calls (session_at peer plan)
  unfolding session_at
  Session-as (no_memory stops) = AsAtPeer-no_memory peer size_of stops
  Session-as {calls = calls} (direct is step) = subst (As nothing_said nothing_heard calls) (is_else _ _ plan.proxied is) (Opens-as 1 step)
  Session-as {calls = calls} (proxied is step) =
      subst (As nothing_said nothing_heard calls) (is_then _ _ plan.proxied is)
      (AsAtPeer-step peer size_of-kept unanswered _ step (λ why same. same) (λ before message later more talk reads.
      configuration_read before message reads.read (verdict (configuration plan) 1 before message) (verdicts_are_of_what_is_read (configuration plan) 1 before message reads.read reads.reads) reads.reads reads.follows))

pub sessions_end_as_at_peers : SessionsEndAsAtPeers
sessions_end_as_at_peers peer plan calls result session leads ends = AsAtPeer-start peer size_of-kept (Session-as peer plan result session) leads ends
