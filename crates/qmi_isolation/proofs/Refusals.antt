-- Who waits for nothing is refused nothing.
use Rattle.std.proofs.Common.{◌≡◌, ◌≢◌, ℕ, zero, suc, max, Bool, true, false, ◌==◌, nat_le, List, [], ◌∷◌, ◌++◌, length, refl, ap, ◌∙◌, Option, Some, None}
use Rattle.std.specs.List.{AllByRecursion}
use Rattle.std.proofs.lemmas.Bool.{eqb-true, false_from_ne_true}
use Rattle.std.proofs.lemmas.List.Elements.{recursion_from_All}
use Rattle.kit_bytes.proofs.Lists.{all_filter}
use Rattle.proxy_history.specs.Facts.{Fact, Request, Expired, Aborted, TimeIs}
use Rattle.proxy_history.specs.Requests.{pending, of_space}
use Rattle.proxy_history.specs.Items.{ClockShows}
use Rattle.proxy_history.specs.ClientIds.{KeptId, kept}
use Rattle.proxy_history.specs.Modem.{now}
use Rattle.proxy_history.specs.Noting.{each_pending}
use Rattle.proxy_history.specs.Unanswered.{due}
use Rattle.proxy_history.specs.View.{Refused, NoAnswer, entry_if, view}
use Rattle.proxy_history.specs.Rendering.{render}
use Rattle.proxy_history.proofs.Noted.{noted_view, kept_by_each}
use Rattle.qmi_proxy.specs.Limits.{outbox_limit, qmi_limits}
use Rattle.qmi_proxy.specs.Spaces.{control_space, service_space}
use Rattle.qmi_proxy.specs.Text.{note, text, view_of, rendering, qmi_wording}
use Rattle.qmi_proxy.specs.Setup.{Setup}
use Rattle.qmi_proxy.specs.Releases.{first_due, number_for_own, releases_one, releases, release_due, freed_if}
use Rattle.qmi_proxy.specs.FromModem.{in_expiry_order, refuse, tick, abort_all, lose}
use Rattle.qmi_proxy.specs.History.{add}
use Rattle.qmi_isolation.specs.Laws.{IsIdle}

module _ (device : List ℕ) (client : ℕ) where
  abbrev AreOthers : List Request → Type 0
  AreOthers requests = AllByRecursion (λ r. r.conn ≢ client) requests

  other : (r : Request) → r.conn ≢ client → (r.conn == client) ≡ false
  other r differs = false_from_ne_true (r.conn == client) (λ e. differs (eqb-true r.conn client e))

  -- a client id that is given back brings nothing
  freed_same : (own : Bool) (r : Request) (past : List Fact) → view_of client (freed_if own r past) ≡ view_of client past
  unfolding view
  freed_same true r past = refl
  freed_same false r past = refl

  expired_same : (r : Request) (past : List Fact) → r.conn ≢ client → view_of client (refuse device (Expired r) r past) ≡ view_of client past
  unfolding view
  expired_same r past differs = freed_same (r.conn == 0) r (note device (Expired r) past) ∙ noted_view qmi_limits (qmi_wording device) client (Expired r) past ∙ ap (λ (b : Bool). entry_if b (Refused r.place NoAnswer) (view_of client past)) (other r differs)

  aborted_same : (r : Request) (past : List Fact) → r.conn ≢ client → view_of client (refuse device (Aborted r) r past) ≡ view_of client past
  unfolding view
  aborted_same r past differs = freed_same (r.conn == 0) r (note device (Aborted r) past) ∙ noted_view qmi_limits (qmi_wording device) client (Aborted r) past ∙ ap (λ (b : Bool). entry_if b (Refused r.place NoAnswer) (view_of client past)) (other r differs)

  each_same : (action : Request → List Fact → List Fact) → ((r : Request) (past : List Fact) → r.conn ≢ client → view_of client (action r past) ≡ view_of client past)
      → (requests : List Request) (past : List Fact) → AreOthers requests → view_of client (each_pending action requests past) ≡ view_of client past
  each_same action same requests past others = kept_by_each (λ after. view_of client after ≡ view_of client past) (λ r. r.conn ≢ client) action (λ r before differs kept. same r before differs ∙ kept) requests past others refl

  both : (front back : List Request) → AreOthers front → AreOthers back → AreOthers (front ++ back)
  both [] back ours theirs = theirs
  both (r ∷ front) back ours theirs = (ours.0, both front back ours.1 theirs)

  ordered : (requests : List Request) → AreOthers requests → AreOthers (in_expiry_order requests)
  ordered requests others = both (of_space control_space requests) (of_space service_space requests) (all_filter _ _ requests others) (all_filter _ _ requests others)

  module _ (past : List Fact) (idle : IsIdle client past) where
    waiting : AreOthers (pending past)
    waiting = recursion_from_All (λ (r : Request). r.conn ≢ client) (pending past) idle

    aborts_same : view_of client (abort_all device past) ≡ view_of client past
    aborts_same = each_same (λ r before. refuse device (Aborted r) r before) aborted_same (in_expiry_order (pending past)) past (ordered (pending past) waiting)

    pub ticked_same : (time : ℕ) → view_of client (tick device time past) ≡ view_of client past
    unfolding view
    ticked_same time =
        (each_same (λ r before. refuse device (Expired r) r before) expired_same (in_expiry_order (due (max time (now past)) (pending past))) (TimeIs (max time (now past)) ∷ past)
        (ordered (due (max time (now past)) (pending past)) (all_filter _ (λ r. nat_le r.deadline (max time (now past))) (pending past) waiting)))

    pub aborted_same_bytes : rendering device client (abort_all device past) ≡ rendering device client past
    aborted_same_bytes = ap (render outbox_limit (text device)) aborts_same

    pub lost_same : rendering device client (lose device past) ≡ rendering device client past
    unfolding view
    lost_same = ap (render outbox_limit (text device)) aborts_same

-- ---- the client ids that the proxy itself releases ----

module _ (s : Setup) (client : ℕ) where
  released_same : (after count : ℕ) (past : List Fact) → view_of client (releases s after count past) ≡ view_of client past
  unfolding releases view
  released_same after zero past = refl
  released_same after (suc count) past = by_id (λ next. released_same after count next) (first_due after (now past) (kept past))
    where
      by_number : ((next : List Fact) → view_of client (releases s after count next) ≡ view_of client next) → (k : KeptId) (number : Option ℕ)
          → view_of client (elim number [ None ↦ past | Some number ↦ releases s after count (releases_one s k number past) ]) ≡ view_of client past
      by_number rest k None = refl
      by_number rest k (Some n) = rest (releases_one s k n past)

      by_id : ((next : List Fact) → view_of client (releases s after count next) ≡ view_of client next) → (found : Option KeptId)
          → view_of client (elim found [ None ↦ past | Some k ↦ elim (number_for_own k past) [ None ↦ past | Some number ↦ releases s after count (releases_one s k number past) ] ]) ≡ view_of client past
      by_id rest None = refl
      by_id rest (Some k) = by_number rest k (number_for_own k past)

  due_same : (after : Option ℕ) (past : List Fact) → view_of client (release_due s after past) ≡ view_of client past
  due_same None past = refl
  due_same (Some after) past = released_same after (length (kept past)) past

  pub ticks_same : (past : List Fact) → IsIdle client past → (time : ℕ) → rendering s.device client (add s (ClockShows time) past) ≡ rendering s.device client past
  ticks_same past idle time = ap (render outbox_limit (text s.device)) (due_same s.release (tick s.device time past) ∙ ticked_same s.device client past idle time)
