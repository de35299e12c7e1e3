-- What becomes of a client id.
use Rattle.std.proofs.Common.{◌≡◌, ◌≢◌, ℕ, ◌==◌, if◌then◌else◌, Bool, true, false, not, List, Option, Some, None, Ok, Err, refl, sym, ◌∙◌, ap, subst}
use Rattle.std.proofs.lemmas.Bool.{not-true, not-false}
use Rattle.qmux_frame.specs.declared.head.Head.{Head}
use Rattle.qmux_frame.specs.Head.{head_of, is_framed}
use Rattle.link_session.specs.declared.fault.SessionFault.TheVariants as fault
use Rattle.link_session.specs.Marks.{Placed}
use Rattle.session_script.specs.Script.{Script, Ends}
use Rattle.device_core.proofs.Sending.{is_then, is_else, not_zero}
use Rattle.request_session.specs.declared.plan.RequestPlan.{RequestPlan}
use Rattle.request_session.specs.declared.client.Client.{Client}
use Rattle.request_session.specs.Session.{leave, release, released}

module _ (plan : RequestPlan) (client : Client) where
  abbrev kept : Script (Option (ℕ × ℕ))
  kept = Ends (Ok (Some (plan.request.service, client.id)))

  abbrev otherwise : Script (Option (ℕ × ℕ))
  otherwise = if plan.keep then kept else release plan client

  pub leaves_none : plan.request.service ≡ 0 → Ends (Ok None) ≡ leave plan client
  leaves_none is = is_then (Ends (Ok None)) otherwise (plan.request.service == 0) (ap (λ (n : ℕ). n == 0) is)

  module _ (other : plan.request.service ≢ 0) where
    pub leaves_kept : plan.keep ≡ true → kept ≡ leave plan client
    leaves_kept keep = is_then kept (release plan client) plan.keep keep ∙ is_else (Ends (Ok None)) otherwise (plan.request.service == 0) (not_zero plan.request.service other)

    pub leaves_released : plan.keep ≡ false → release plan client ≡ leave plan client
    leaves_released keep = is_else kept (release plan client) plan.keep keep ∙ is_else (Ends (Ok None)) otherwise (plan.request.service == 0) (not_zero plan.request.service other)

-- ---- the answer to Release ----

module _ {head : Head} {bytes : List ℕ} (message : Placed) (head_is : head ≡ head_of bytes) (bytes_are : bytes ≡ message.bytes) where
  framed_is : {framed : Bool} → head.framed ≡ framed → is_framed message.bytes ≡ framed
  framed_is {framed = framed} is =
      let P : List ℕ → Type 0 = λ (m : List ℕ). is_framed m ≡ framed in subst P bytes_are (sym (ap (λ (h : Head). h.framed) head_is) ∙ is)

  pub released-framed : not head.framed ≡ false → Ends (Ok None) ≡ Ends (released message)
  released-framed is = rw (framed_is (not-false head.framed is)) refl

  pub released-unframed : not head.framed ≡ true → Ends (Err (fault.Broken message.place)) ≡ Ends (released message)
  released-unframed is = rw (framed_is (not-true head.framed is)) refl
