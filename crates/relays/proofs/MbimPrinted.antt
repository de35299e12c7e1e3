-- What an MBIM tool prints, at a modem itself and through a proxy.
use Rattle.std.proofs.Common.{◌≡◌, ◌⊎◌, inl, inr, ℕ, Bool, true, false, List, Some, refl, ap, ap₂, sym, ◌∙◌, subst}
use Rattle.std.specs.Prelude.{Result, Ok, Err}
use Rattle.mbim_frame.specs.Bodies.{is_done, status_of, buffer_of}
use Rattle.mbim_fields.specs.Layout.{Layout}
use Rattle.mbim_fields.specs.Value.{Value, list_of}
use Rattle.mbim_fields.specs.View.{val_view}
use Rattle.mbim_fields.proofs.Agreement.{one-reading}
use Rattle.mbim_requests.specs.declared.MbimRequest.{MbimRequest}
use Rattle.mbim_services.specs.declared.answers.MbimAnswer.{MbimAnswer}
use Rattle.mbim_services.specs.declared.answers.MbimAnswer.TheVariants.{Success, Failure}
use Rattle.mbim_services.specs.declared.answers.AnswerFault.TheVariants.{Unread}
use Rattle.mbim_services.specs.Requests.{sent_by}
use Rattle.mbim_services.specs.Answers as services
use Rattle.mbimcli_print.specs.Answer.{answer_text, printed}
use Rattle.link_session.specs.declared.fault.SessionFault.{SessionFault}
use Rattle.link_session.specs.declared.fault.SessionFault.TheVariants as fault
use Rattle.mbim_session.specs.declared.plan.MbimEnd.{MbimEnd}
use Rattle.mbim_session.specs.declared.plan.MbimEnd.TheVariants.{Answer, FunctionError}
use Rattle.mbim_session.specs.Requests.{pieces, begins_at}
use Rattle.mbim_session.specs.Answers.{ReadsAs, ReadsBody, body_with}
use Rattle.mbim_session.specs.Peer.{LastWord, OfOpen, OfCommand, Unanswered, EndsWith}
use Rattle.twin_sessions.specs.MbimRuns.{Alike, status_in}
use Rattle.twin_sessions.proofs.MbimSessions as twin
use Rattle.relays.specs.MbimRuns.{time_limit, simulated_modem}
use Rattle.relays.specs.MbimLaw.{PrintsTheSame, SessionsEndAlike, RelaysMayCome, ToolsPrintTheSame}
use Rattle.relays.proofs.MbimPlans.{as_planned}
use Rattle.relays.proofs.MbimServed.{is_served}

module _ (layout : Layout) (status : ℕ) (buffer : List ℕ) where
  abbrev Says : MbimAnswer → Type 0
  Says a = services.Answers layout status buffer (Ok a)

  -- a body says one thing
  says_one : (a b : MbimAnswer) → Says a → Says b → (answer_text a ≡ answer_text b) × (status_in a ≡ status_in b)
  says_one (Success shape val) (Success shape' val') one other =
      (ap₂ (λ (l : Layout) (values : List Value). printed l values) (one.1 ∙ sym other.1) (one-reading layout (list_of (val_view val)) (list_of (val_view val')) buffer one.2 other.2), refl)
  says_one (Success shape val) (Failure code) one other = absurd (other.0 one.0)
  says_one (Failure code) (Success shape val) one other = absurd (one.0 other.0)
  says_one (Failure code) (Failure code') one other = (refl, ap Some (one.1 ∙ sym other.1))

  -- or doesn't read
  reads_or_not : (a : MbimAnswer) → Says a → services.Answers layout status buffer (Err Unread) → ⊥
  reads_or_not (Success shape val) one none = none.1 (list_of (val_view val)) one.2
  reads_or_not (Failure code) one none = one.0 none.0

module _ (request : MbimRequest) (body : List ℕ) where
  abbrev row : Layout
  row = (sent_by request).row.done

  done_clash : is_done body ≡ true → is_done body ≡ false → ⊥
  done_clash is isnt = let clash : true ≡ false = sym is ∙ isnt in cc

  broken_or_not : (a : MbimAnswer) → services.Answers row (status_of body) (buffer_of body) (Ok a) → is_done body ≡ true → (is_done body ≡ false) ⊎ services.Answers row (status_of body) (buffer_of body) (Err Unread) → ⊥
  broken_or_not a says is (inl isnt) = done_clash is isnt
  broken_or_not a says is (inr none) = reads_or_not row (status_of body) (buffer_of body) a says none

  same : (begin begin' : ℕ) (one other : Result MbimEnd SessionFault) → ReadsBody request begin body one → ReadsBody request begin' body other → PrintsTheSame one other
  same begin begin' (Ok (Answer a)) (Ok (Answer b)) reads reads' = says_one row (status_of body) (buffer_of body) a b reads.1 reads'.1
  same begin begin' (Ok (Answer a)) (Ok (FunctionError code)) reads reads' = absurd reads'
  same begin begin' (Ok (Answer a)) (Err (fault.Broken place)) reads reads' = absurd (broken_or_not a reads.1 reads.0 reads'.1)
  same begin begin' (Ok (Answer a)) (Err fault.OutOfMemory) reads reads' = tt
  same begin begin' (Ok (Answer a)) (Err fault.LinkFault) reads reads' = absurd reads'
  same begin begin' (Ok (Answer a)) (Err fault.LinkEnd) reads reads' = absurd reads'
  same begin begin' (Ok (Answer a)) (Err fault.TimedOut) reads reads' = absurd reads'
  same begin begin' (Ok (Answer a)) (Err fault.Flooded) reads reads' = absurd reads'
  same begin begin' (Ok (FunctionError code)) other reads reads' = absurd reads
  same begin begin' (Err (fault.Broken place)) (Ok (Answer a)) reads reads' = absurd (broken_or_not a reads'.1 reads'.0 reads.1)
  same begin begin' (Err (fault.Broken place)) (Ok (FunctionError code)) reads reads' = absurd reads'
  same begin begin' (Err (fault.Broken place)) (Err (fault.Broken place')) reads reads' = tt
  same begin begin' (Err (fault.Broken place)) (Err fault.OutOfMemory) reads reads' = tt
  same begin begin' (Err (fault.Broken place)) (Err fault.LinkFault) reads reads' = absurd reads'
  same begin begin' (Err (fault.Broken place)) (Err fault.LinkEnd) reads reads' = absurd reads'
  same begin begin' (Err (fault.Broken place)) (Err fault.TimedOut) reads reads' = absurd reads'
  same begin begin' (Err (fault.Broken place)) (Err fault.Flooded) reads reads' = absurd reads'
  same begin begin' (Err fault.OutOfMemory) other reads reads' = tt
  same begin begin' (Err fault.LinkFault) other reads reads' = absurd reads
  same begin begin' (Err fault.LinkEnd) other reads reads' = absurd reads
  same begin begin' (Err fault.TimedOut) other reads reads' = absurd reads
  same begin begin' (Err fault.Flooded) other reads reads' = absurd reads

-- ends that are alike print the same
alike_prints : (w w' : LastWord) (one other : Result MbimEnd SessionFault) → Alike w w' → EndsWith one w → EndsWith other w' → PrintsTheSame one other
alike_prints (OfCommand request number before message) (OfCommand request' number' before' message') one other alike ends ends' =
    let body : List ℕ = body_with (pieces number' before') message' in
    let reads : ReadsBody request (begins_at (pieces number before) message) body one =
    subst (λ (l : List ℕ). ReadsBody request (begins_at (pieces number before) message) l one) alike.3 (subst (λ (b : Bool). ReadsAs b request (pieces number before) message one) alike.1 ends) in
    let reads' : ReadsBody request (begins_at (pieces number' before') message') body other =
    subst (λ (r : MbimRequest). ReadsBody r (begins_at (pieces number' before') message') body other) (sym alike.0) (subst (λ (b : Bool). ReadsAs b request' (pieces number' before') message' other) alike.2 ends') in
    same request body (begins_at (pieces number before) message) (begins_at (pieces number' before') message') one other reads reads'
alike_prints (OfCommand request number before message) (OfOpen number' message') one other alike ends ends' = absurd alike
alike_prints (OfCommand request number before message) (Unanswered why) one other alike ends ends' = absurd alike
alike_prints (OfOpen number message) w' one other alike ends ends' = absurd alike
alike_prints (Unanswered why) w' one other alike ends ends' = absurd alike

pub sessions_end_alike : SessionsEndAlike
sessions_end_alike profile plan within is = twin.sessions_end_alike time_limit (simulated_modem profile) plan (as_planned plan is) (is_served profile plan within is)

pub relays_may_come : RelaysMayCome
relays_may_come profile plan within is = twin.sessions_may_come time_limit (simulated_modem profile) plan (as_planned plan is) (is_served profile plan within is)

pub tools_print_the_same : ToolsPrintTheSame
tools_print_the_same profile plan within is direct through ends ends' = alike_prints _ _ direct through (sessions_end_alike profile plan within is) ends ends'
