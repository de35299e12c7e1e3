-- Whose client id a request has.
use Rattle.std.proofs.Common.{◌≡◌, ◌≢◌, ℕ, ◌==◌, true, false, List, Option, Some, None, sym, ◌∙◌, ap}
use Rattle.std.specs.Prelude.{unwrap_or}
use Rattle.qmux_frame.specs.Head.{tlvs_in}
use Rattle.device_core.specs.Session.{allocated_in}
use Rattle.device_core.proofs.Sending.{is_then, is_else, not_zero}
use Rattle.request_session.specs.declared.plan.RequestPlan.{RequestPlan}
use Rattle.request_session.specs.declared.client.Access.TheVariants.{Client}
use Rattle.request_session.specs.Session.{allocate, allocated, client_of, given_or_allocated, reach, reach_by_proxy, take_client}

module _ (plan : RequestPlan) (number : ℕ) where
  pub takes_none : plan.request.service ≡ 0 → client_of 0 number ≡ take_client plan number
  takes_none is = is_then (client_of 0 number) (given_or_allocated plan plan.cid number) (plan.request.service == 0) (ap (λ (n : ℕ). n == 0) is)

  module _ (other : plan.request.service ≢ 0) where
    takes_other : {cid : Option ℕ} → plan.cid ≡ cid → given_or_allocated plan cid number ≡ take_client plan number
    takes_other is =
        ap (λ (c : Option ℕ). given_or_allocated plan c number) (sym is)
        ∙ is_else (client_of 0 number) (given_or_allocated plan plan.cid number) (plan.request.service == 0) (not_zero plan.request.service other)

    pub takes_given : {id : ℕ} → plan.cid ≡ Some id → client_of id number ≡ take_client plan number
    takes_given is = takes_other is

    pub takes_allocated : plan.cid ≡ None → allocate plan number ≡ take_client plan number
    takes_allocated is = takes_other is

module _ (plan : RequestPlan) where
  pub reaches_directly : plan.proxied ≡ false → take_client plan 1 ≡ reach plan
  reaches_directly is = is_else (reach_by_proxy plan) (take_client plan 1) plan.proxied is

  pub reaches_by_proxy : plan.proxied ≡ true → reach_by_proxy plan ≡ reach plan
  reaches_by_proxy is = is_then (reach_by_proxy plan) (take_client plan 1) plan.proxied is

-- the client id of an answer
pub allocated-is : (message : List ℕ) {id : ℕ} (next : ℕ) → allocated_in (tlvs_in message) ≡ Some id → Client (record { id = id; next = next }) ≡ Client (record { id = allocated message; next = next })
allocated-is message next is = let same = ap (λ (o : Option ℕ). unwrap_or o 0) is in ap (λ (n : ℕ). Client (record { id = n; next = next })) (sym same)
