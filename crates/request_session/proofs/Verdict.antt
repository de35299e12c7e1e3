-- What an answer to a request to service 0 is followed by.
use Rattle.std.proofs.Common.{◌≡◌, if◌then◌else◌, inl, inr, ℕ, List, [], Some, None, Option, Result, Ok, Err, refl, sym, ◌∙◌, ap, subst}
use Rattle.framing.specs.Reading.{Reading}
use Rattle.qmux_frame.specs.Frame.{size_of}
use Rattle.qmux_frame.specs.Head.{tlvs_in}
use Rattle.link_io.specs.Calls.{Call}
use Rattle.tlv_codec.specs.Outcome.{outcome_in}
use Rattle.qmi_requests.specs.declared.QmiRequest.{QmiRequest}
use Rattle.qmi_services.specs.declared.answers.QmiAnswer.{QmiAnswer}
use Rattle.qmi_services.specs.declared.answers.QmiAnswer.TheVariants.{Success, Failure}
use Rattle.link_session.specs.declared.fault.SessionFault.{SessionFault}
use Rattle.link_session.specs.declared.fault.SessionFault.TheVariants as fault
use Rattle.link_session.specs.declared.asking.Reply.{Reply}
use Rattle.link_session.specs.Marks.{Placed}
use Rattle.link_session.specs.Waiting.{Heard}
use Rattle.link_session.specs.Hearing.{placed_in}
use Rattle.session_script.specs.Script.{Script, Ends, Plays}
use Rattle.session_script.specs.Hearing.{Goes}
use Rattle.session_script.proofs.Going.{Goes-as, Goes-ends, Goes-read, Goes-unread}
use Rattle.device_core.specs.Hearing.{RepliesTo, failure_in}
use Rattle.device_core.specs.Session.{Reads}
use Rattle.device_core.specs.Verdict.{reads, succeeds}
use Rattle.device_core.proofs.Sending.{is_then, is_else}
use Rattle.device_core.proofs.Verdicts.{verdicts_are_of_what_is_read}
use Rattle.request_session.specs.declared.client.Access.{Access}
use Rattle.request_session.specs.declared.client.Access.TheVariants.{Refused}
use Rattle.request_session.specs.Session.{broken, control, error_of, on_success}

module _ (body : QmiRequest) (message : Placed) (next : Script Access) where
  abbrev refused : Script Access
  refused = Ends (Ok (Refused (error_of (outcome_in (tlvs_in message.bytes)))))

  abbrev otherwise : Script Access
  otherwise = if reads body message.bytes then refused else Ends (broken message)

  pub success-goes : (answer : QmiAnswer) → failure_in answer ≡ None → Reads body message (Ok answer) → next ≡ on_success body message next
  success-goes (Success fields) none is = is_then next otherwise (succeeds body message.bytes) (verdicts_are_of_what_is_read body message (Ok (Success fields)) is).1
  success-goes (Failure error) none is = absurd (cc)

  pub failure-ends : (answer : QmiAnswer) {error : ℕ} → failure_in answer ≡ Some error → Reads body message (Ok answer) → Ends (Ok (Refused error)) ≡ on_success body message next
  failure-ends (Success fields) some is = absurd (cc)
  failure-ends (Failure told) {error = error} some is =
      let same : told ≡ error = cc in
      let verdict = verdicts_are_of_what_is_read body message (Ok (Failure told)) is in
      ap (λ (n : ℕ). Ends (Ok (Refused n))) (sym same ∙ sym (ap error_of is.1.2))
      ∙ is_then refused (Ends (broken message)) (reads body message.bytes) verdict.0
      ∙ is_else next otherwise (succeeds body message.bytes) verdict.1

  pub unread-ends : (why : SessionFault) (now : Heard) → Reads body message (Err why) → Plays (on_success body message next) now [] (Err why) now
  unread-ends (fault.Broken place) now is =
      let verdict = verdicts_are_of_what_is_read body message (Err (fault.Broken place)) is in
      let broken_is : Ends (broken message) ≡ on_success body message next =
      is_else refused (Ends (broken message)) (reads body message.bytes) verdict.0 ∙ is_else next otherwise (succeeds body message.bytes) verdict.1 in
      subst (λ (s : Script Access). Plays s now [] (Err (fault.Broken place)) now) broken_is (inr ((refl, ap (λ (p : ℕ). Err (fault.Broken p)) is.0), refl))
  unread-ends fault.OutOfMemory now is = inl (refl, refl)
  unread-ends why now is = absurd is

-- ---- a request to service 0 ----

module _ (seconds : ℕ) (body : QmiRequest) (number : ℕ) (next : Placed → Script Access) where
  abbrev pub followed : Script Access
  followed = control seconds body number (λ message. on_success body message (next message))

  module _ {heard : Heard} {cutter : Reading} {before : Option (List Call)} where
    pub Goes-control_unread : {why : SessionFault} {after : Option (List Call)} → RepliesTo seconds (record { body = body; cid = 0; number = number }) heard (Err why) cutter before after
        → Goes size_of followed heard (Err why) cutter before after
    Goes-control_unread {why = why} replies = Goes-unread replies (λ passed message now is. unread-ends body message (next message) why now is)

    pub Goes-refused : {reply : Reply QmiAnswer} {error : ℕ} {after : Option (List Call)} → failure_in reply.answer ≡ Some error
        → RepliesTo seconds (record { body = body; cid = 0; number = number }) heard (Ok reply) cutter before after → Goes size_of followed heard (Ok (Refused error)) cutter before after
    Goes-refused {reply = reply} {after = after} some replies =
        let message : Placed = placed_in cutter reply.found in
        Goes-read replies (Goes-as (failure-ends body message (next message) reply.answer some replies.says.1) (Goes-ends after replies.says.2))

    pub Goes-succeeded : {reply : Reply QmiAnswer} {result : Result Access SessionFault} {last : Reading} {mid after : Option (List Call)} → failure_in reply.answer ≡ None
        → (replies : RepliesTo seconds (record { body = body; cid = 0; number = number }) heard (Ok reply) cutter before mid) → Goes size_of (next (placed_in cutter reply.found)) replies.later result last mid after
        → Goes size_of followed heard result last before after
    Goes-succeeded {reply = reply} none replies goes =
        let message : Placed = placed_in cutter reply.found in Goes-read replies (Goes-as (success-goes body message (next message) reply.answer none replies.says.1) goes)
