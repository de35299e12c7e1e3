-- The request that a response answers is the one of its number in its space.
use Rattle.std.proofs.Common.{◌≡◌, ℕ, Bool, true, false, ◌&&◌, ◌==◌, List, refl, ap, ◌∙◌, subst, Contains, if◌then◌else◌}
use Rattle.std.specs.List.{AllByRecursion}
use Rattle.std.proofs.lemmas.Bool.{eqb-true, eq-eqb, and_parts}
use Rattle.kit_bytes.proofs.Lists.{all_weaker}
use Rattle.qmux_frame.specs.Head.{service_of, cid_of, number_of}
use Rattle.proxy_history.specs.Facts.{Fact, Request}
use Rattle.proxy_history.specs.Requests.{is_pending}
use Rattle.qmi_proxy.specs.Limits.{qmi_limits}
use Rattle.qmi_proxy.specs.Spaces.{control_space, service_space, space_of}
use Rattle.qmi_proxy.specs.FromModem.{is_answered_by}
use Rattle.qmi_proxy.specs.Regular.{IsPlaced, Regular}
use Rattle.qmi_proxy.proofs.Apart.{within}
use Rattle.proxy_state.specs.Requests.{RequestInUse, requests_in_use}
use Rattle.proxy_state.proofs.InUse.{request_in, in_use_is, all_map, AreDifferent}
use Rattle.proxy_state.proofs.Apart as apart
use Rattle.proxy_state.proofs.Matching.{IsMatched}
use Rattle.qmi_state.specs.Asked.{asked_of}

-- no two of the requests in use are alike
pub are_different : (past : List Fact) → Regular past → AreDifferent (requests_in_use past)
are_different past R = apart.are_different qmi_limits within past R.sound

pub all_placed : (past : List Fact) → Regular past → AllByRecursion (λ a. IsPlaced a.request) (requests_in_use past)
all_placed past R = all_map IsPlaced request_in (requests_in_use past) (subst (AllByRecursion IsPlaced) (in_use_is past) R.placed)

-- whether the sender waits
pub pending_flag : (past : List Fact) (a : RequestInUse) → Regular past → Contains (requests_in_use past) a → is_pending a.request past ≡ a.waits
pending_flag past a R at = apart.waits_by_flag past a (are_different past R) at

-- ---- the request that is answered ----

abbrev pub fits_request : List ℕ → Request → Bool
fits_request m r = service_of r.message == service_of m && (cid_of r.message == cid_of m)

module _ (m : List ℕ) where
  -- it is in the space of the message and has its number
  answered_is : (q : Request) → IsPlaced q → is_answered_by m q ≡ true → (q.space ≡ space_of m) × (q.number ≡ number_of m)
  answered_is q placed e =
      let parts = and_parts (fits_request m q) (q.number == number_of m) e in
      let heads = and_parts (service_of q.message == service_of m) (cid_of q.message == cid_of m) parts.0 in
      (placed.0 ∙ ap (λ (n : ℕ). if n == 0 then control_space else service_space) (eqb-true (service_of q.message) (service_of m) heads.0), eqb-true q.number (number_of m) parts.1)

  pub all_matched : (past : List Fact) → Regular past → AllByRecursion (λ (a : RequestInUse). IsMatched asked_of (space_of m) (number_of m) (is_answered_by m) a.request) (requests_in_use past)
  all_matched past R =
      all_weaker (λ (a : RequestInUse). IsPlaced a.request) (λ (a : RequestInUse). IsMatched asked_of (space_of m) (number_of m) (is_answered_by m) a.request)
      (λ a placed e. answered_is a.request placed e) (requests_in_use past) (all_placed past R)

  pub answered_by_number : (q : Request) → q.number ≡ number_of m → is_answered_by m q ≡ fits_request m q
  answered_by_number q same =
      ap (λ (t : Bool). fits_request m q && t) (eq-eqb q.number (number_of m) same) ∙ elim (fits_request m q) as (λ t. (t && true) ≡ t) [ true ↦ refl | false ↦ refl ]
