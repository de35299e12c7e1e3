-- A session's steps, put together.
use Rattle.std.proofs.Common.{◌≡◌, ℕ, Bool, true, false, not, List, [], Some, None, Result, Ok, Err, refl, sym, ◌∙◌, ap, subst}
use Rattle.std.proofs.lemmas.Bool.{not-true, not-false}
use Rattle.qmux_frame.specs.declared.head.Head.{Head}
use Rattle.qmux_frame.specs.Head.{head_of, is_framed}
use Rattle.link_io.specs.Calls.{Call}
use Rattle.qmi_services.specs.declared.answers.QmiAnswer.{QmiAnswer}
use Rattle.qmi_services.specs.declared.answers.QmiAnswer.TheVariants.{Success, Failure}
use Rattle.qmi_services.specs.declared.answers.QmiEnd.{QmiEnd}
use Rattle.link_session.specs.declared.fault.SessionFault.{SessionFault}
use Rattle.link_session.specs.declared.fault.SessionFault.TheVariants as fault
use Rattle.link_session.specs.Marks.{Placed}
use Rattle.device_core.specs.Hearing.{failure_in}
use Rattle.device_core.specs.Session.{OnSuccess, end_with, failed, released}

-- whether it is a failure
pub OnSuccess-failure : (answer : QmiAnswer) {error : ℕ} {end : Result QmiEnd SessionFault} (Then : Type 0) → failure_in answer ≡ Some error → end ≡ Ok (failed error) → OnSuccess answer [] end Then
OnSuccess-failure (Failure e) {error = error} then is ends = let same : e ≡ error = cc in (refl, ends ∙ ap (λ (n : ℕ). Ok (failed n)) (sym same))
OnSuccess-failure (Success fields) then is ends = absurd (cc)

pub OnSuccess-none : (answer : QmiAnswer) (calls : List Call) (result : Result QmiEnd SessionFault) {Then : Type 0} → failure_in answer ≡ None → Then → OnSuccess answer calls result Then
OnSuccess-none (Success fields) calls result is then = then
OnSuccess-none (Failure e) calls result is then = absurd (cc)

-- ---- the answer to Release ----

module _ {head : Head} {bytes : List ℕ} (message : Placed) (head_is : head ≡ head_of bytes) (bytes_are : bytes ≡ message.bytes) where
  framed_is : {framed : Bool} → head.framed ≡ framed → is_framed message.bytes ≡ framed
  framed_is {framed = framed} is =
      let P : List ℕ → Type 0 = λ (m : List ℕ). is_framed m ≡ framed in subst P bytes_are (sym (ap (λ (h : Head). h.framed) head_is) ∙ is)

  pub end-framed : (answer : QmiAnswer) → not head.framed ≡ false → end_with answer None ≡ released message answer
  end-framed answer is = rw (framed_is (not-false head.framed is)) refl

  pub end-unframed : (answer : QmiAnswer) → not head.framed ≡ true → Err (fault.Broken message.place) ≡ released message answer
  end-unframed answer is = rw (framed_is (not-true head.framed is)) refl
