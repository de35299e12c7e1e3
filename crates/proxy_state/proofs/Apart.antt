-- Each request in use is told apart from all others in use.
use Rattle.std.proofs.Common.{◌≡◌, ℕ, ◌≤◌, true, List, [], ◌∷◌, refl, ap, sym, ◌∙◌, subst, ⊎_elim, AllPairs, Contains}
use Rattle.std.specs.List.{AllByRecursion}
use Rattle.std.proofs.lemmas.Bool.{eqb-true}
use Rattle.std.proofs.lemmas.List.Elements.{All-contains, recursion_from_All}
use Rattle.kit_bytes.proofs.Lists.{all_weaker}
use Rattle.proxy_history.specs.Limits.{Limits}
use Rattle.proxy_history.specs.Facts.{Fact, Request}
use Rattle.proxy_history.specs.Requests.{in_use, pending, is_pending, has_request}
use Rattle.proxy_history.specs.Sound.{Differ, IsSound}
use Rattle.proxy_history.proofs.Lists.{Contains-cons_cases}
use Rattle.proxy_history.proofs.Sound.{forwarded_from_in_use, waits}
use Rattle.proxy_history.proofs.SoundLaws.{in_use_differ}
use Rattle.proxy_state.specs.Requests.{RequestInUse, requests_in_use}
use Rattle.proxy_state.proofs.InUse.{request_in, in_use_is, pending_is, request_in_use, all_map, head_all, tail_pairs, AreDifferent, different_from, waits_flag}
use Rattle.proxy_state.proofs.Rows.{AreApart}

differing : (r q : Request) → Differ r q → AreApart r q
differing r q differ = record {
  serial = λ e. absurd (differ.0 (eqb-true r.serial q.serial e));
  number = λ space number. absurd (differ.1 (eqb-true r.space q.space space) (eqb-true r.number q.number number));
}

turned : (r q : Request) → Differ q r → Differ r q
turned r q differ = (λ e. differ.0 (sym e), λ space number. differ.1 (sym space) (sym number))

apart_in : (requests : List Request) (r : Request) → AllPairs Differ requests → Contains requests r → AllByRecursion (AreApart r) requests
apart_in [] r pairs at = tt
apart_in (q ∷ requests) r pairs at =
    let first = head_all Differ q requests pairs in
    ⊎_elim
    (λ (is : q ≡ r). subst (λ (x : Request). AllByRecursion (AreApart x) (q ∷ requests)) is
    (record { serial = λ e. refl; number = λ space number. refl }, all_weaker (Differ q) (AreApart q) (differing q) requests (recursion_from_All (Differ q) requests first)))
    (λ (later : Contains requests r). (differing r q (turned r q (All-contains (Differ q) requests r first later)), apart_in requests r (tail_pairs Differ q requests pairs) later))
    (Contains-cons_cases r q requests at)

-- where no more may be in use than there are numbers
pub all_apart : (limits : Limits) → ((space : ℕ) → limits.in_use space ≤ limits.top space) → (past : List Fact) (r : Request) → IsSound limits past → Contains (in_use past) r → AllByRecursion (λ a. AreApart r a.request) (requests_in_use past)
all_apart limits within past r sound at =
    all_map (AreApart r) request_in (requests_in_use past) (subst (AllByRecursion (AreApart r)) (in_use_is past) (apart_in (in_use past) r (in_use_differ limits within past sound) at))

-- ---- whether the sender of one waits ----

pub are_different : (limits : Limits) → ((space : ℕ) → limits.in_use space ≤ limits.top space) → (past : List Fact) → IsSound limits past → AreDifferent (requests_in_use past)
are_different limits within past sound = different_from (requests_in_use past) (subst (AllPairs Differ) (in_use_is past) (in_use_differ limits within past sound))

module _ (past : List Fact) (a : RequestInUse) (different : AreDifferent (requests_in_use past)) (at : Contains (requests_in_use past) a) where
  pub waits_by_flag : is_pending a.request past ≡ a.waits
  waits_by_flag = ap (has_request a.request) (pending_is past) ∙ waits_flag (requests_in_use past) a different at

  pub request_waits : (limits : Limits) → IsSound limits past → a.waits ≡ true → Contains (pending past) a.request
  request_waits limits sound waiting = waits limits past a.request sound (forwarded_from_in_use past a.request (request_in_use past a at)) (waits_by_flag ∙ waiting)
