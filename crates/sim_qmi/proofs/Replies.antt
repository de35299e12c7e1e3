-- Each request is answered once, and nothing but what is told stands behind the response.
use Rattle.std.proofs.Common.{◌≡◌, ℕ, List, [], ◌++◌, Option, refl, sym, ap, ◌∙◌, subst, append-nil}
use Rattle.std.specs.Prelude.{Result, Ok, Err}
use Rattle.qmux_frame.specs.declared.kind.MessageKind.{MessageKind}
use Rattle.qmux_frame.specs.Head.{head_of, tlvs_in}
use Rattle.qmux_frame.specs.Reply.{reply_to}
use Rattle.qmux_frame.proofs.Written.{written_is_read}
use Rattle.modem_profile.specs.Profile.{Profile}
use Rattle.qmi_services.specs.Table.{Output}
use Rattle.sim_modem.specs.Sim.{state_after}
use Rattle.sim_qmi.specs.declared.request.Request.{Request}
use Rattle.sim_qmi.specs.declared.request.Request.TheVariants.{Dms}
use Rattle.sim_qmi.specs.declared.dms.DmsRequest.TheVariants as dms
use Rattle.sim_qmi.specs.Laws.{EachRequestIsAnswered, RepliesTo, told_behind}
use Rattle.sim_qmi.specs.Modem.{Exchange, answer_tlvs, indications, machine, response, serves, takes, takes_kind}
use Rattle.sim_qmi.specs.Requests.{asked, row_of}
use Rattle.sim_qmi.specs.State.{State}
use Rattle.sim_qmi.specs.Step.{Answer, Step, failure}

-- what is told behind the response to a request
indicated : (profile : Profile) (after : State) (request : Request) → indications profile after request ≡ told_behind profile (Ok request) after
indicated profile after (Dms (dms.SetOperatingMode mode)) = refl
indicated profile after request = refl

module _ (profile : Profile) (before : State) (message : List ℕ) where
  abbrev brings : Result Request ℕ → Exchange
  brings found = takes profile before (head_of message) found

  begun : (found : Result Request ℕ) (outputs : List Output) (answer : Answer) → (brings found).messages ≡ response (head_of message) outputs answer ++ told_behind profile found (brings found).state
      → asked before (head_of message) (tlvs_in message) ≡ found → RepliesTo profile before (brings found).state message (brings found).messages
  begun found outputs answer is came =
      let read = written_is_read (reply_to (head_of message)) (answer_tlvs outputs answer) in
      record {
        reply = response (head_of message) outputs answer;
        whole = is ∙ ap (λ (what : Result Request ℕ). response (head_of message) outputs answer ++ told_behind profile what (brings found).state) (sym came);
        is_message = read.whole;
        head = read.head;
      }

  replies : (found : Result Request ℕ) → asked before (head_of message) (tlvs_in message) ≡ found → RepliesTo profile before (brings found).state message (brings found).messages
  replies (Err error) came = begun (Err error) [] (failure error) (sym (append-nil (response (head_of message) [] (failure error)))) came
  replies (Ok request) came =
      let step : Step = serves profile before request in
      begun (Ok request) (row_of request).output step.answer (ap (λ (told : List ℕ). response (head_of message) (row_of request).output step.answer ++ told) (indicated profile step.state request)) came

pub answered : EachRequestIsAnswered
answered profile past message is =
    let before : State = state_after (machine profile) past in
    subst (λ (found : Option MessageKind). RepliesTo profile before (takes_kind profile before message found).state message (takes_kind profile before message found).messages) (sym is)
    (replies profile before message (asked before (head_of message) (tlvs_in message)) refl)
