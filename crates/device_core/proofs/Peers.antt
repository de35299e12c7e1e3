-- Over a link to a peer a session ends as at the peer.
use Rattle.std.proofs.Common.{ℕ, if◌then◌else◌, ◌+◌, ◌==◌, Bool, true, false, List, Option, Some, None, Result, Ok, Err, refl, sym, ◌∙◌, ap, subst}
use Rattle.std.specs.Prelude.{unwrap_or}
use Rattle.link_io.specs.Calls.{Call}
use Rattle.qmux_frame.specs.Frame.{size_of}
use Rattle.qmux_frame.specs.Framing.{size_of-kept}
use Rattle.qmux_frame.specs.Head.{is_framed, tlvs_in}
use Rattle.qmi_requests.specs.declared.QmiRequest.{QmiRequest}
use Rattle.qmi_requests.specs.declared.QmiRequest.TheVariants.{ProxyOpen, Allocate}
use Rattle.qmi_services.specs.declared.answers.QmiAnswer.{QmiAnswer}
use Rattle.qmi_services.specs.declared.answers.QmiAnswer.TheVariants.{Success, Failure}
use Rattle.qmi_services.specs.declared.answers.QmiEnd.{QmiEnd}
use Rattle.link_session.specs.declared.fault.SessionFault.{SessionFault}
use Rattle.link_session.specs.declared.fault.SessionFault.TheVariants as fault
use Rattle.link_session.specs.Marks.{Placed}
use Rattle.link_session.specs.Waiting.{Heard, nothing_heard}
use Rattle.link_session.specs.Asking.{Stops, AfterReading}
use Rattle.link_session.specs.Peer.{Peer, Talk, Finish, nothing_said}
use Rattle.link_session.proofs.Peers.{AsAtPeer, AsAtPeer-no_memory, AsAtPeer-start, AsAtPeer-step, AsAtPeer-stops}
use Rattle.device_core.specs.declared.plan.QmiPlan.{QmiPlan}
use Rattle.device_core.specs.Session.{Reads, OnSuccess, Finishes, without, keeping, releasing, Commands, CommandsAs, Chooses, control, given, allocating, Session, no_memory, direct, proxied, service, allocated_in, end_with}
use Rattle.device_core.specs.Verdict.{reads, succeeds}
use Rattle.device_core.specs.Peer.{LastWord, OfAnswer, Unframed, EndsWith, SessionsEndAsAtPeers, choose_at, command_at, finish, given_at, leave_at, session_at, unanswered}
use Rattle.device_core.proofs.Sending.{not_zero, is_then, is_else}
use Rattle.device_core.proofs.Verdicts.{verdicts_are_of_what_is_read}

-- ---- the requests of a plan, the last one first ----

module _ (peer : Peer) (plan : QmiPlan) (result : Result QmiEnd SessionFault) where
  -- a session's calls that end as at the peer
  abbrev pub As : Talk → Heard → List Call → Finish LastWord → Type 0
  As talk heard calls end = AsAtPeer peer size_of (EndsWith result) talk heard calls result end

  As-stops : {talk : Talk} {heard : Heard} {calls : List Call} {stop : Result QmiEnd SessionFault} (word : LastWord) → EndsWith stop word → Stops stop calls result → As talk heard calls (finish word talk)
  As-stops word ends stops = AsAtPeer-stops peer size_of stops (λ same. subst (λ (r : Result QmiEnd SessionFault). EndsWith r word) (sym same) ends)

  -- the answer to the release
  As-released : (answer : QmiAnswer) (message last : Placed) (framed : Bool) → Reads plan.request message (Ok answer) → {talk : Talk} {heard : Heard} {calls : List Call}
      → Stops (if framed then end_with answer None else Err (fault.Broken last.place)) calls result
      → As talk heard calls (if framed then finish (OfAnswer plan.request None message) talk else finish (Unframed last) talk)
  As-released answer message last true reads stops = As-stops (OfAnswer plan.request None message) (Ok answer, reads, refl) stops
  As-released answer message last false reads stops = As-stops (Unframed last) refl stops

  Finishes-as : (cid number : ℕ) (answer : QmiAnswer) (message : Placed) → Reads plan.request message (Ok answer) → {talk : Talk} {heard : Heard} {calls : List Call}
      → Finishes plan cid number answer heard calls result → As talk heard calls (leave_at peer plan cid number message talk)
  Finishes-as cid number answer message reads {talk = talk} {heard = heard} {calls = calls} (without none stops) =
      subst (As talk heard calls) (is_then _ _ (service plan == 0) (ap (λ (k : ℕ). k == 0) none)) (As-stops (OfAnswer plan.request None message) (Ok answer, reads, refl) stops)
  Finishes-as cid number answer message reads {talk = talk} {heard = heard} {calls = calls} (keeping other keep stops) =
      subst (As talk heard calls) (is_then _ _ plan.keep keep ∙ is_else _ _ (service plan == 0) (not_zero (service plan) other))
      (As-stops (OfAnswer plan.request (Some (service plan, cid)) message) (Ok answer, reads, refl) stops)
  Finishes-as cid number answer message reads {talk = talk} {heard = heard} {calls = calls} (releasing other keep step) =
      subst (As talk heard calls) (is_else _ _ plan.keep keep ∙ is_else _ _ (service plan == 0) (not_zero (service plan) other))
      (AsAtPeer-step peer size_of-kept unanswered _ step (λ why same. same) (λ before last later more talk stops. As-released answer message last (is_framed last.bytes) reads stops))

  -- the answer to the command
  command_read : (cid number : ℕ) (message : Placed) {talk : Talk} {heard : Heard} {calls : List Call} (read : Result QmiAnswer SessionFault)
      → Reads plan.request message read → AfterReading read calls result (λ answer. Finishes plan cid number answer heard calls result)
      → As talk heard calls
      (if reads plan.request message.bytes
      then leave_at peer plan cid number message talk
      else finish (OfAnswer plan.request None message) talk)
  command_read cid number message {talk = talk} {heard = heard} {calls = calls} (Ok (Success fields)) is follows =
      let verdict = verdicts_are_of_what_is_read plan.request message (Ok (Success fields)) is in
      subst (As talk heard calls) (is_then _ _ (reads plan.request message.bytes) verdict.0) (Finishes-as cid number (Success fields) message is follows)
  command_read cid number message {talk = talk} {heard = heard} {calls = calls} (Ok (Failure error)) is follows =
      let verdict = verdicts_are_of_what_is_read plan.request message (Ok (Failure error)) is in
      subst (As talk heard calls) (is_then _ _ (reads plan.request message.bytes) verdict.0) (Finishes-as cid number (Failure error) message is follows)
  command_read cid number message {talk = talk} {heard = heard} {calls = calls} (Err (fault.Broken place)) is follows =
      let verdict = verdicts_are_of_what_is_read plan.request message (Err (fault.Broken place)) is in
      subst (As talk heard calls) (is_else _ _ (reads plan.request message.bytes) verdict.0) (As-stops (OfAnswer plan.request None message) (Err (fault.Broken place), is, refl) follows)
  command_read cid number message (Err fault.OutOfMemory) is follows = AsAtPeer-no_memory peer size_of follows
  command_read cid number message (Err why) is follows = absurd is

  Commands-as : (cid number : ℕ) {talk : Talk} {heard : Heard} {calls : List Call} → Commands plan cid number heard calls result → As talk heard calls (command_at peer plan cid number talk)
  Commands-as cid number commands =
      AsAtPeer-step peer size_of-kept unanswered _ commands (λ why same. same) (λ before message later more talk is. command_read cid number message is.read is.reads is.follows)

  -- the answer to a request before the command
  before_command : (request : QmiRequest) (message : Placed) (next : Finish LastWord) {Then : Type 0} {talk : Talk} {heard : Heard} {calls : List Call} (read : Result QmiAnswer SessionFault)
      → Reads request message read → AfterReading read calls result (λ answer. OnSuccess answer calls result Then) → (Then → As talk heard calls next)
      → As talk heard calls (if succeeds request message.bytes then next else finish (OfAnswer request None message) talk)
  before_command request message next {talk = talk} {heard = heard} {calls = calls} (Ok (Success fields)) is follows goes =
      let verdict = verdicts_are_of_what_is_read request message (Ok (Success fields)) is in
      subst (As talk heard calls) (is_then _ _ (succeeds request message.bytes) verdict.1) (goes follows)
  before_command request message next {talk = talk} {heard = heard} {calls = calls} (Ok (Failure error)) is follows goes =
      let verdict = verdicts_are_of_what_is_read request message (Ok (Failure error)) is in
      subst (As talk heard calls) (is_else _ _ (succeeds request message.bytes) verdict.1) (As-stops (OfAnswer request None message) (Ok (Failure error), is, refl) follows)
  before_command request message next {talk = talk} {heard = heard} {calls = calls} (Err (fault.Broken place)) is follows goes =
      let verdict = verdicts_are_of_what_is_read request message (Err (fault.Broken place)) is in
      subst (As talk heard calls) (is_else _ _ (succeeds request message.bytes) verdict.1) (As-stops (OfAnswer request None message) (Err (fault.Broken place), is, refl) follows)
  before_command request message next (Err fault.OutOfMemory) is follows goes = AsAtPeer-no_memory peer size_of follows
  before_command request message next (Err why) is follows goes = absurd is

  -- a client id that was allocated
  allocated_as : (message : List ℕ) (number : ℕ) {talk : Talk} {heard : Heard} {calls : List Call} → CommandsAs plan message number heard calls result
      → As talk heard calls (command_at peer plan (unwrap_or (allocated_in (tlvs_in message)) 0) number talk)
  allocated_as message number {talk = talk} {heard = heard} {calls = calls} (cid, is, commands) =
      subst (λ (c : ℕ). As talk heard calls (command_at peer plan c number talk)) (sym (ap (λ (o : Option ℕ). unwrap_or o 0) is)) (Commands-as cid number commands)

  Chooses-as : (number : ℕ) {talk : Talk} {heard : Heard} {calls : List Call} → Chooses plan number heard calls result → As talk heard calls (choose_at peer plan number talk)
  Chooses-as number {talk = talk} {heard = heard} {calls = calls} (control none commands) =
      subst (As talk heard calls) (is_then _ _ (service plan == 0) (ap (λ (k : ℕ). k == 0) none)) (Commands-as 0 number commands)
  Chooses-as number {talk = talk} {heard = heard} {calls = calls} (given cid other is commands) =
      subst (As talk heard calls) (ap (λ (c : Option ℕ). given_at peer plan c number talk) (sym is) ∙ is_else _ _ (service plan == 0) (not_zero (service plan) other)) (Commands-as cid number commands)
  Chooses-as number {talk = talk} {heard = heard} {calls = calls} (allocating other is step) =
      subst (As talk heard calls) (ap (λ (c : Option ℕ). given_at peer plan c number talk) (sym is) ∙ is_else _ _ (service plan == 0) (not_zero (service plan) other))
      (AsAtPeer-step peer size_of-kept unanswered _ step (λ why same. same) (λ before message later more talk read.
      before_command (Allocate (service plan)) message _ read.read read.reads read.follows (λ commands. allocated_as message.bytes (number + 1) commands)))

  Session-as : {calls : List Call} → Session plan calls result → As nothing_said nothing_heard calls (session_at peer plan)
  unfolding session_at
  Session-as (no_memory stops) = AsAtPeer-no_memory peer size_of stops
  Session-as {calls = calls} (direct is chooses) = subst (As nothing_said nothing_heard calls) (is_else _ _ plan.proxied is) (Chooses-as 1 chooses)
  Session-as {calls = calls} (proxied is step) =
      subst (As nothing_said nothing_heard calls) (is_then _ _ plan.proxied is)
      (AsAtPeer-step peer size_of-kept unanswered _ step (λ why same. same) (λ before message later more talk read.
      before_command (ProxyOpen plan.device) message _ read.read read.reads read.follows (λ chooses. Chooses-as 2 chooses)))

pub sessions_end_as_at_peers : SessionsEndAsAtPeers
sessions_end_as_at_peers peer plan calls result session leads ends = AsAtPeer-start peer size_of-kept (Session-as peer plan result session) leads ends
