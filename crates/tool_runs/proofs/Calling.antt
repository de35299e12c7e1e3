-- The calls of a session stand between one opening and one closing.
use Rattle.std.proofs.Common.{◌≡◌, ℕ, Bool, true, false, List, [], ◌∷◌, ◌++◌, All, Result, refl, sym, ◌∙◌, ap, subst, ◌+◌, count_by, cond}
use Rattle.std.proofs.lemmas.List.{append-nil}
use Rattle.std.proofs.lemmas.List.Elements.{All-nil, All-head, All-tail}
use Rattle.std.proofs.lemmas.List.Sums.{sum_by-append}
use Rattle.std.specs.List.{concat}
use Rattle.link_io.specs.Calls.{Call, Opened, Paired, Sent, Took, WasQuiet, WasEnd, TakeFailed, Closed}
use Rattle.link_session.specs.declared.fault.SessionFault.{SessionFault}
use Rattle.link_session.specs.Sending.{AreFirst, EndsWell, IsSendOrTake, SendsInOrder, sent_before_takes, sent_in}
use Rattle.link_session.proofs.Sending.{Sends, before-append, sent_in-append}
use Rattle.qmi_services.specs.declared.answers.QmiEnd.{QmiEnd}
use Rattle.device_core.specs.declared.plan.QmiPlan.{QmiPlan}
use Rattle.device_core.specs.Session as qmi
use Rattle.device_core.specs.Sending as qmi_sending
use Rattle.device_core.specs.Sending.{SendsRequests, requests_of}
use Rattle.device_core.proofs.Sending.{Session-sends as qmi_sends}
use Rattle.mbim_session.specs.declared.plan.MbimPlan.{MbimPlan}
use Rattle.mbim_session.specs.declared.plan.MbimEnd.{MbimEnd}
use Rattle.mbim_session.specs.Session as mbim
use Rattle.mbim_session.specs.Sending as mbim_sending
use Rattle.mbim_session.proofs.Sending.{Session-sends as mbim_sends}
use Rattle.tool_runs.specs.Asking.{Exchange}
use Rattle.tool_runs.specs.Calling.{IsOneVisit, is_opening, is_closing}

-- none of a session's calls opens or closes the link
neither : (call : Call) → IsSendOrTake call → (is_opening call ≡ false) × (is_closing call ≡ false)
neither (Sent bytes ok) is = (refl, refl)
neither (Took piece) is = (refl, refl)
neither WasQuiet is = (refl, refl)
neither WasEnd is = (refl, refl)
neither TakeFailed is = (refl, refl)
neither (Opened address ok) is = absurd is
neither (Paired ok) is = absurd is
neither Closed is = absurd is

count-append : (is : Call → Bool) (xs ys : List Call) → count_by is (xs ++ ys) ≡ count_by is xs + count_by is ys
count-append is xs ys = sum_by-append (λ (call : Call). cond (is call) 1 0) xs ys

none_among : (is : Call → Bool) → ((call : Call) → IsSendOrTake call → is call ≡ false) → (calls : List Call) → All IsSendOrTake calls → count_by is calls ≡ 0
none_among is none [] each = refl
none_among is none (call ∷ calls) each =
    let here : count_by is (call ∷ []) ≡ 0 = ap (λ (b : Bool). 0 + cond b 1 0) (none call (All-head IsSendOrTake call calls each)) in
    let rest : count_by is calls ≡ 0 = none_among is none calls (All-tail IsSendOrTake call calls each) in
    count-append is (call ∷ []) calls ∙ ap (λ (n : ℕ). n + count_by is calls) here ∙ ap (λ (n : ℕ). 0 + n) rest

module _ {End : Type 0} (Session : List Call → Result End SessionFault → Type 0) (calls : List Call) (result : Result End SessionFault) where
  -- a session that only sends and takes is one visit
  pub Exchange-visits : ((own : List Call) → Session own result → All IsSendOrTake own) → Exchange Session calls result → IsOneVisit calls
  Exchange-visits only exchange =
      let own : List Call = exchange.own in
      let each : All IsSendOrTake own = only own exchange.session in
      let no_opening : count_by is_opening own ≡ 0 = none_among is_opening (λ call is. (neither call is).0) own each in
      let no_closing : count_by is_closing own ≡ 0 = none_among is_closing (λ call is. (neither call is).1) own each in
      record {
        earlier = own;
        openings = ap (count_by is_opening) exchange.whole ∙ count-append is_opening own (Closed ∷ []) ∙ ap (λ (n : ℕ). n + 0) no_opening;
        closings = ap (count_by is_closing) exchange.whole ∙ count-append is_closing own (Closed ∷ []) ∙ ap (λ (n : ℕ). n + 1) no_closing;
        last = exchange.whole;
      }

  -- and what a session sends is sent
  pub Exchange-sends : (IsGood : End → Type 0) (texts : ℕ → List (List ℕ)) → ((own : List Call) → Session own result → Sends IsGood texts own result)
      → Exchange Session calls result → (choice : ℕ) × SendsInOrder (texts choice) calls (EndsWell IsGood result)
  unfolding sent_in sent_before_takes
  Exchange-sends IsGood texts sends exchange =
      let own : List Call = exchange.own in
      let made : Sends IsGood texts own result = sends own exchange.session in
      let P : List (List ℕ) → Type 0 = λ (l : List (List ℕ)). All (AreFirst (texts made.choice)) l in
      let same : sent_in (own ++ Closed ∷ []) ≡ sent_in own = sent_in-append own (Closed ∷ []) ∙ append-nil (sent_in own) in
      let same_before : sent_before_takes [] (own ++ Closed ∷ []) ≡ sent_before_takes [] own = before-append [] own (Closed ∷ []) ∙ append-nil (sent_before_takes [] own) in
      rw exchange.whole (
        made.choice,
        record {
          before_takes = subst P (sym same_before) (made.before []);
          unsent = made.left;
          in_all = made.in_all ∙ ap (λ (l : List ℕ). l ++ made.left) (sym same);
          ends = made.ends;
        },
      )

-- ---- of each tool ----

pub qmi_visits : (plan : QmiPlan) (calls : List Call) (result : Result QmiEnd SessionFault) → Exchange (qmi.Session plan) calls result → IsOneVisit calls
qmi_visits plan calls result = Exchange-visits (qmi.Session plan) calls result (λ own session. (qmi_sends plan own result session).each)

pub qmi_requests_sent : (plan : QmiPlan) (calls : List Call) (result : Result QmiEnd SessionFault) → Exchange (qmi.Session plan) calls result → (allocated : ℕ) × SendsRequests (requests_of plan allocated) calls result
qmi_requests_sent plan calls result = Exchange-sends (qmi.Session plan) calls result qmi_sending.IsGood (λ n. qmi_sending.messages_of (requests_of plan n)) (λ own session. qmi_sends plan own result session)

pub mbim_visits : (plan : MbimPlan) (calls : List Call) (result : Result MbimEnd SessionFault) → Exchange (mbim.Session plan) calls result → IsOneVisit calls
mbim_visits plan calls result = Exchange-visits (mbim.Session plan) calls result (λ own session. (mbim_sends plan own result session).each)

pub mbim_messages_sent : (plan : MbimPlan) (calls : List Call) (result : Result MbimEnd SessionFault) → Exchange (mbim.Session plan) calls result → SendsInOrder (mbim_sending.messages_of plan) calls (EndsWell mbim_sending.IsGood result)
mbim_messages_sent plan calls result exchange = (Exchange-sends (mbim.Session plan) calls result mbim_sending.IsGood (λ n. mbim_sending.messages_of plan) (λ own session. mbim_sends plan own result session) exchange).1
