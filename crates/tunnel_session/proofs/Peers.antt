-- Over a link to a peer a session ends as at the peer.
use Rattle.std.proofs.Common.{◌≡◌, ◌≢◌, ℕ, if◌then◌else◌, ◌+◌, ◌==◌, ◌&&◌, Bool, true, false, List, Option, Some, None, Result, Ok, Err, length, refl, sym, ◌∙◌, ap, subst, arith}
use Rattle.std.proofs.lemmas.Bool.Decides.{nat_tests}
use Rattle.std.specs.Prelude.{option_and_then, unwrap_or}
use Rattle.link_io.specs.Calls.{Call}
use Rattle.mbim_frame.specs.Frame.{size_of}
use Rattle.mbim_frame.specs.Framing.{size_of-kept}
use Rattle.qmux_frame.specs.Head.{tlvs_in}
use Rattle.qmi_requests.specs.declared.QmiRequest.TheVariants.{Allocate, Release}
use Rattle.qmi_services.specs.declared.answers.QmiAnswer.{QmiAnswer}
use Rattle.qmi_services.specs.declared.answers.QmiAnswer.TheVariants.{Success, Failure}
use Rattle.mbim_services.specs.declared.answers.MbimAnswer.TheVariants as answer
use Rattle.link_session.specs.declared.fault.SessionFault.{SessionFault}
use Rattle.link_session.specs.declared.fault.SessionFault.TheVariants as fault
use Rattle.link_session.specs.Marks.{Placed}
use Rattle.link_session.specs.Waiting.{Heard, nothing_heard}
use Rattle.link_session.specs.Asking.{Stops, AfterReading}
use Rattle.link_session.specs.Peer.{Peer, Talk, Finish, nothing_said}
use Rattle.link_session.proofs.Peers.{AsAtPeer, AsAtPeer-no_memory, AsAtPeer-start, AsAtPeer-step, AsAtPeer-stops}
use Rattle.device_core.specs.declared.plan.QmiPlan.{QmiPlan}
use Rattle.device_core.specs.Requests.{Request, wanted_by}
use Rattle.device_core.specs.Session as qmi
use Rattle.device_core.specs.Session.{allocated_in, service}
use Rattle.device_core.specs.Verdict.{reads, succeeds}
use Rattle.device_core.proofs.Sending.{not_zero, is_then, is_else}
use Rattle.device_core.proofs.Verdicts.{verdicts_are_of_what_is_read}
use Rattle.mbim_session.specs.declared.plan.MbimEnd.{MbimEnd}
use Rattle.mbim_session.specs.declared.plan.MbimEnd.TheVariants as mbim
use Rattle.mbim_session.specs.Answers as answers
use Rattle.mbim_session.specs.Answers.{field_of}
use Rattle.mbim_session.specs.Requests.{is_error}
use Rattle.mbim_session.specs.Peer.{Verdict, Unread, Refuses, Succeeds, HasVerdict, is_success, opens, verdict}
use Rattle.mbim_session.specs.Session.{UnlessRefused}
use Rattle.mbim_session.proofs.Peers as mbim_peers
use Rattle.tunnel_session.specs.declared.carried.Carried.{Carried}
use Rattle.tunnel_session.specs.declared.carried.Carried.TheVariants as carried
use Rattle.tunnel_session.specs.declared.ends.TunnelEnd.{TunnelEnd}
use Rattle.tunnel_session.specs.Carried.{carried_in}
use Rattle.tunnel_session.specs.Session.{Carries, Chooses, Closes, Commands, CommandsAs, Finishes, OnMessage, OnSuccess, Opens, Session, allocating, configuration, control, direct, end_with, given, keeping, no_memory, proxied, refusal_in, releasing, without}
use Rattle.tunnel_session.specs.Peer.{LastWord, NoAnswer, OfAnswer, OfConfiguration, OfOpen, EndsWith, SessionsEndAsAtPeers, came_then, carry_then, choose_at, close_at, command_at, finish, given_at, leave_at, open_at, take_at, tunnel_at, unanswered}

false_if : (b c : Bool) → c ≡ false → b && c ≡ false
false_if true c is = is
false_if false c is = refl

isnt : (n m : ℕ) → n ≢ m → (n == m) ≡ false
isnt n m differ = grind (arith, nat_tests, differ)

-- an answer to an OPEN is no success of a command
abbrev is_answer : Option MbimEnd → Bool
is_answer (Some (mbim.Answer (answer.Success shape val))) = true
is_answer (Some (mbim.Answer (answer.Failure status))) = false
is_answer (Some (mbim.FunctionError code)) = false
is_answer None = false

no_answer : (error zero : Bool) (code status : ℕ) → is_answer (if error then Some (mbim.FunctionError code) else if zero then None else Some (mbim.Answer (answer.Failure status))) ≡ false
no_answer true zero code status = refl
no_answer false true code status = refl
no_answer false false code status = refl

module _ (peer : Peer) (plan : QmiPlan) (result : Result TunnelEnd SessionFault) where
  -- a session's calls that end as at the peer
  abbrev pub As : Talk → Heard → List Call → Finish LastWord → Type 0
  As talk heard calls end = AsAtPeer peer size_of (λ word. EndsWith result word plan) talk heard calls result end

  As-stops : {talk : Talk} {heard : Heard} {calls : List Call} {stop : Result TunnelEnd SessionFault} (word : LastWord) → EndsWith stop word plan → Stops stop calls result → As talk heard calls (finish word talk)
  As-stops word ends stops = AsAtPeer-stops peer size_of stops (λ same. subst (λ (r : Result TunnelEnd SessionFault). EndsWith r word plan) (sym same) ends)

  Closes-as : (end : TunnelEnd) (number : ℕ) (word : LastWord) → EndsWith (Ok end) word plan → {talk : Talk} {heard : Heard} {calls : List Call} → Closes end number plan.timeout heard calls result → As talk heard calls (close_at peer word number plan.timeout talk)
  Closes-as end number word ends step = AsAtPeer-step peer size_of-kept unanswered (λ before message talk. finish word talk) step (λ why same. same) (λ before message later more talk stops. As-stops word ends stops)

  -- ---- what came for a request that was carried ----

  came_as : (came : Result Carried SessionFault) (read : Result Carried SessionFault) (next : Placed → Talk → Finish LastWord) {Then : Placed → Type 0} {talk : Talk} {heard : Heard} {calls : List Call}
      → (read ≢ Err fault.OutOfMemory → read ≡ came) → AfterReading read calls result (λ carried. OnMessage carried calls result Then)
      → ((message : Placed) → Then message → As talk heard calls (next message talk)) → As talk heard calls (came_then came talk next)
  came_as came (Ok (carried.Message message)) next {talk = talk} {heard = heard} {calls = calls} is follows goes =
      let same : Ok (carried.Message message) ≡ came = is (λ no. absurd (cc)) in
      subst (λ (c : Result Carried SessionFault). As talk heard calls (came_then c talk next)) same (goes (record { place = message.place; bytes = message.bytes }) follows)
  came_as came (Ok (carried.Refused end)) next {talk = talk} {heard = heard} {calls = calls} is follows goes =
      let same : Ok (carried.Refused end) ≡ came = is (λ no. absurd (cc)) in
      subst (λ (c : Result Carried SessionFault). As talk heard calls (came_then c talk next)) same (As-stops (NoAnswer (Ok end)) refl follows)
  came_as came (Err fault.OutOfMemory) next is follows goes = AsAtPeer-no_memory peer size_of follows
  came_as came (Err why) next {talk = talk} {heard = heard} {calls = calls} is follows goes =
      let same : Err why ≡ came = is (λ no. absurd (cc)) in
      subst (λ (c : Result Carried SessionFault). As talk heard calls (came_then c talk next)) same (As-stops (NoAnswer (Err why)) refl follows)

  Carries-as : (request : Request) (number : ℕ) (next : Placed → Talk → Finish LastWord) {Then : Placed → Heard → List Call → Type 0} {talk : Talk} {heard : Heard} {calls : List Call}
      → Carries request number plan.timeout heard calls result Then
      → ((message : Placed) (later : Heard) (more : List Call) (talk : Talk) → Then message later more → As talk later more (next message talk))
      → As talk heard calls (carry_then peer request number plan.timeout talk next)
  Carries-as request number next step goes =
      AsAtPeer-step peer size_of-kept unanswered _ step (λ why same. same) (λ before message later more talk came.
      came_as (carried_in (wanted_by request) number before message) came.read next came.reads came.follows (λ message after. goes message later more talk after))

  -- ---- the requests of a plan, the last one first ----

  Finishes-as : (cid ctl number : ℕ) (answer : QmiAnswer) (message : Placed) → qmi.Reads plan.request message (Ok answer) → {talk : Talk} {heard : Heard} {calls : List Call}
      → Finishes plan cid ctl number answer heard calls result → As talk heard calls (leave_at peer plan cid ctl message number talk)
  Finishes-as cid ctl number answer message reads {talk = talk} {heard = heard} {calls = calls} (without none closes) =
      subst (As talk heard calls) (is_then _ _ (service plan == 0) (ap (λ (k : ℕ). k == 0) none)) (Closes-as (end_with answer None) number (OfAnswer plan.request None message) (Ok answer, reads, refl) closes)
  Finishes-as cid ctl number answer message reads {talk = talk} {heard = heard} {calls = calls} (keeping other keep closes) =
      subst (As talk heard calls) (is_then _ _ plan.keep keep ∙ is_else _ _ (service plan == 0) (not_zero (service plan) other))
      (Closes-as (end_with answer (Some (service plan, cid))) number (OfAnswer plan.request (Some (service plan, cid)) message) (Ok answer, reads, refl) closes)
  Finishes-as cid ctl number answer message reads {talk = talk} {heard = heard} {calls = calls} (releasing other keep step) =
      subst (As talk heard calls) (is_else _ _ plan.keep keep ∙ is_else _ _ (service plan == 0) (not_zero (service plan) other))
      (Carries-as (record { body = Release (service plan) cid; cid = 0; number = ctl }) number _ step (λ last later more talk closes.
      Closes-as (end_with answer None) (number + 1) (OfAnswer plan.request None message) (Ok answer, reads, refl) closes))

  -- the answer to the command
  command_read : (cid ctl number : ℕ) (message : Placed) {talk : Talk} {heard : Heard} {calls : List Call} (read : Result QmiAnswer SessionFault)
      → qmi.Reads plan.request message read → AfterReading read calls result (λ answer. Finishes plan cid ctl number answer heard calls result)
      → As talk heard calls
      (if reads plan.request message.bytes
      then leave_at peer plan cid ctl message number talk
      else finish (OfAnswer plan.request None message) talk)
  command_read cid ctl number message {talk = talk} {heard = heard} {calls = calls} (Ok (Success fields)) is follows =
      let verdict = verdicts_are_of_what_is_read plan.request message (Ok (Success fields)) is in
      subst (As talk heard calls) (is_then _ _ (reads plan.request message.bytes) verdict.0) (Finishes-as cid ctl number (Success fields) message is follows)
  command_read cid ctl number message {talk = talk} {heard = heard} {calls = calls} (Ok (Failure error)) is follows =
      let verdict = verdicts_are_of_what_is_read plan.request message (Ok (Failure error)) is in
      subst (As talk heard calls) (is_then _ _ (reads plan.request message.bytes) verdict.0) (Finishes-as cid ctl number (Failure error) message is follows)
  command_read cid ctl number message {talk = talk} {heard = heard} {calls = calls} (Err (fault.Broken place)) is follows =
      let verdict = verdicts_are_of_what_is_read plan.request message (Err (fault.Broken place)) is in
      subst (As talk heard calls) (is_else _ _ (reads plan.request message.bytes) verdict.0) (As-stops (OfAnswer plan.request None message) (Err (fault.Broken place), is, refl) follows)
  command_read cid ctl number message (Err fault.OutOfMemory) is follows = AsAtPeer-no_memory peer size_of follows
  command_read cid ctl number message (Err why) is follows = absurd is

  Commands-as : (cid ctl number : ℕ) {talk : Talk} {heard : Heard} {calls : List Call} → Commands plan cid ctl number heard calls result → As talk heard calls (command_at peer plan cid ctl number talk)
  Commands-as cid ctl number step =
      Carries-as (qmi.command plan cid ctl) number _ step (λ message later more talk is. command_read cid ctl (number + 1) message is.read is.reads is.follows)

  -- the answer to Allocate
  allocated_as : (message : List ℕ) (number : ℕ) {talk : Talk} {heard : Heard} {calls : List Call} → CommandsAs plan message number heard calls result
      → As talk heard calls (command_at peer plan (unwrap_or (allocated_in (tlvs_in message)) 0) 2 number talk)
  allocated_as message number {talk = talk} {heard = heard} {calls = calls} (cid, is, commands) =
      subst (λ (c : ℕ). As talk heard calls (command_at peer plan c 2 number talk)) (sym (ap (λ (o : Option ℕ). unwrap_or o 0) is)) (Commands-as cid 2 number commands)

  take_read : (number : ℕ) (message : Placed) {talk : Talk} {heard : Heard} {calls : List Call} (read : Result QmiAnswer SessionFault)
      → qmi.Reads (Allocate (service plan)) message read
      → AfterReading read calls result (λ answer. OnSuccess answer number plan.timeout heard calls result (CommandsAs plan message.bytes number heard calls result))
      → As talk heard calls (take_at peer plan message number talk)
  take_read number message {talk = talk} {heard = heard} {calls = calls} (Ok (Success fields)) is follows =
      let verdict = verdicts_are_of_what_is_read (Allocate (service plan)) message (Ok (Success fields)) is in
      subst (As talk heard calls) (is_then _ _ (succeeds (Allocate (service plan)) message.bytes) verdict.1) (allocated_as message.bytes number follows)
  take_read number message {talk = talk} {heard = heard} {calls = calls} (Ok (Failure error)) is follows =
      let verdict = verdicts_are_of_what_is_read (Allocate (service plan)) message (Ok (Failure error)) is in
      subst (As talk heard calls) (is_then _ _ (reads (Allocate (service plan)) message.bytes) verdict.0 ∙ is_else _ _ (succeeds (Allocate (service plan)) message.bytes) verdict.1)
      (Closes-as _ number (OfAnswer (Allocate (service plan)) None message) (Ok (Failure error), is, refl) follows)
  take_read number message {talk = talk} {heard = heard} {calls = calls} (Err (fault.Broken place)) is follows =
      let verdict = verdicts_are_of_what_is_read (Allocate (service plan)) message (Err (fault.Broken place)) is in
      subst (As talk heard calls) (is_else _ _ (reads (Allocate (service plan)) message.bytes) verdict.0 ∙ is_else _ _ (succeeds (Allocate (service plan)) message.bytes) verdict.1)
      (As-stops (OfAnswer (Allocate (service plan)) None message) (Err (fault.Broken place), is, refl) follows)
  take_read number message (Err fault.OutOfMemory) is follows = AsAtPeer-no_memory peer size_of follows
  take_read number message (Err why) is follows = absurd is

  Chooses-as : (number : ℕ) {talk : Talk} {heard : Heard} {calls : List Call} → Chooses plan number heard calls result → As talk heard calls (choose_at peer plan number talk)
  Chooses-as number {talk = talk} {heard = heard} {calls = calls} (control none commands) =
      subst (As talk heard calls) (is_then _ _ (service plan == 0) (ap (λ (k : ℕ). k == 0) none)) (Commands-as 0 1 number commands)
  Chooses-as number {talk = talk} {heard = heard} {calls = calls} (given cid other is commands) =
      subst (As talk heard calls) (ap (λ (c : Option ℕ). given_at peer plan c number talk) (sym is) ∙ is_else _ _ (service plan == 0) (not_zero (service plan) other)) (Commands-as cid 1 number commands)
  Chooses-as number {talk = talk} {heard = heard} {calls = calls} (allocating other is step) =
      subst (As talk heard calls) (ap (λ (c : Option ℕ). given_at peer plan c number talk) (sym is) ∙ is_else _ _ (service plan == 0) (not_zero (service plan) other))
      (Carries-as (record { body = Allocate (service plan); cid = 0; number = 1 }) number _ step (λ message later more talk is. take_read (number + 1) message is.read is.reads is.follows))

  -- the answer to an OPEN
  opening_read : (number : ℕ) (message : Placed) {talk : Talk} {heard : Heard} {calls : List Call} (read : Result (Option MbimEnd) SessionFault) → answers.ReadsOpening number message read
      → AfterReading read calls result (λ refused. UnlessRefused (option_and_then refusal_in refused) calls result (Chooses plan (number + 1) heard calls result))
      → As talk heard calls (if opens number message.bytes then choose_at peer plan (number + 1) talk else finish (OfOpen number message) talk)
  opening_read number message {talk = talk} {heard = heard} {calls = calls} (Ok None) reads follows =
      let goes_on : opens number message.bytes ≡ true = rw (← reads.1, reads.0) refl in
      subst (As talk heard calls) (is_then _ _ (opens number message.bytes) goes_on) (Chooses-as (number + 1) follows)
  opening_read number message (Ok (Some (mbim.Answer (answer.Success shape val)))) reads follows =
      let bad : true ≡ false = ap is_answer reads.1 ∙ no_answer (is_error number message.bytes) (field_of message.bytes == 0) _ _ in absurd (cc)
  opening_read number message {talk = talk} {heard = heard} {calls = calls} (Ok (Some (mbim.Answer (answer.Failure status)))) reads follows =
      let stays : opens number message.bytes ≡ false = rw (← reads.1) refl in
      subst (As talk heard calls) (is_else _ _ (opens number message.bytes) stays) (As-stops (OfOpen number message) (Ok (Some (mbim.Answer (answer.Failure status))), reads, refl) follows)
  opening_read number message {talk = talk} {heard = heard} {calls = calls} (Ok (Some (mbim.FunctionError code))) reads follows =
      let stays : opens number message.bytes ≡ false = rw (← reads.1) refl in
      subst (As talk heard calls) (is_else _ _ (opens number message.bytes) stays) (As-stops (OfOpen number message) (Ok (Some (mbim.FunctionError code)), reads, refl) follows)
  opening_read number message {talk = talk} {heard = heard} {calls = calls} (Err (fault.Broken place)) reads follows =
      let stays : opens number message.bytes ≡ false = false_if _ (length message.bytes == 16) (isnt (length message.bytes) 16 reads.0) in
      subst (As talk heard calls) (is_else _ _ (opens number message.bytes) stays) (As-stops (OfOpen number message) (Err (fault.Broken place), reads, refl) follows)
  opening_read number message (Err why) reads follows = absurd reads

  Opens-as : (number : ℕ) {talk : Talk} {heard : Heard} {calls : List Call} → Opens plan number heard calls result → As talk heard calls (open_at peer plan number talk)
  Opens-as number step =
      AsAtPeer-step peer size_of-kept unanswered _ step (λ why same. same) (λ before message later more talk reads. opening_read number message reads.read reads.reads reads.follows)

  -- the answer to the proxy's configuration
  configuration_read : (before : List Placed) (message : Placed) {talk : Talk} {heard : Heard} {calls : List Call} (read : Result MbimEnd SessionFault) (found : Verdict)
      → HasVerdict read found → answers.Reads (configuration plan) 1 before message read → AfterReading read calls result (λ end. UnlessRefused (refusal_in end) calls result (Opens plan 2 heard calls result))
      → As talk heard calls (if is_success found then open_at peer plan 2 talk else finish (OfConfiguration before message) talk)
  configuration_read before message (Ok (mbim.Answer (answer.Success shape val))) Succeeds has reads follows = Opens-as 2 follows
  configuration_read before message (Ok (mbim.Answer (answer.Failure status))) Refuses has reads follows = As-stops (OfConfiguration before message) (Ok (mbim.Answer (answer.Failure status)), reads, refl) follows
  configuration_read before message (Ok (mbim.FunctionError code)) Refuses has reads follows = As-stops (OfConfiguration before message) (Ok (mbim.FunctionError code), reads, refl) follows
  configuration_read before message (Err why) Unread has reads follows = As-stops (OfConfiguration before message) (Err why, reads, refl) follows
  configuration_read before message (Err fault.OutOfMemory) Refuses has reads follows = AsAtPeer-no_memory peer size_of follows
  configuration_read before message (Err fault.OutOfMemory) Succeeds has reads follows = AsAtPeer-no_memory peer size_of follows
  configuration_read before message (Ok (mbim.Answer (answer.Success shape val))) found has reads follows = absurd (cc)
  configuration_read before message (Ok (mbim.Answer (answer.Failure status))) found has reads follows = absurd (cc)
  configuration_read before message (Ok (mbim.FunctionError code)) found has reads follows = absurd (cc)
  configuration_read before message (Err why) found has reads follows = absurd (cc)

  Session-as : {calls : List Call} → Session plan calls result → As nothing_said nothing_heard calls (tunnel_at peer plan)
  unfolding tunnel_at
  Session-as (no_memory stops) = AsAtPeer-no_memory peer size_of stops
  Session-as {calls = calls} (direct is step) = subst (As nothing_said nothing_heard calls) (is_else _ _ plan.proxied is) (Opens-as 1 step)
  Session-as {calls = calls} (proxied is step) =
      subst (As nothing_said nothing_heard calls) (is_then _ _ plan.proxied is)
      (AsAtPeer-step peer size_of-kept unanswered _ step (λ why same. same) (λ before message later more talk reads.
      configuration_read before message reads.read (verdict (configuration plan) 1 before message) (mbim_peers.verdicts_are_of_what_is_read (configuration plan) 1 before message reads.read reads.reads) reads.reads reads.follows))

pub sessions_end_as_at_peers : SessionsEndAsAtPeers
sessions_end_as_at_peers peer plan calls result session leads ends = AsAtPeer-start peer size_of-kept (Session-as peer plan result session) leads ends
