-- The list that the modem was last asked for is that of all open clients together, or it can't be asked.
use Rattle.std.proofs.Common.{◌≡◌, ◌⊎◌, ℕ, Bool, true, false, not, ◌&&◌, ◌||◌, if◌then◌else◌, List, [], ◌∷◌, ◌++◌, refl, ap, sym, ◌∙◌, inl, inr, ⊎_elim, Option, Some, None}
use Rattle.std.specs.List.{list_any}
use Rattle.std.proofs.lemmas.Bool.{and_parts}
use Rattle.kit_bytes.specs.Subscriptions.{Pair}
use Rattle.proxy_history.specs.Events.{Event}
use Rattle.proxy_history.specs.Items.{items_of}
use Rattle.proxy_history.specs.Facts.{Fact, Request, EventBegan}
use Rattle.proxy_history.specs.Requests.{pending}
use Rattle.proxy_history.specs.History as proxy
use Rattle.mbim_proxy.specs.Setup.{Setup}
use Rattle.mbim_services.specs.SubscribeLists.{is_same_list}
use Rattle.mbim_proxy.specs.ModemStates.{IsAway, IsShut, is_own, is_ready, state}
use Rattle.mbim_proxy.specs.Lists.{merged, last_list}
use Rattle.mbim_proxy.specs.Forwarding.{own_subscribe, number_for, request_of}
use Rattle.mbim_proxy.specs.OwnList.{is_free, number_of_list, send_under}
use Rattle.mbim_proxy.specs.History.{mbim_protocol, history}
use Rattle.mbim_proxy.proofs.SameLists.{same_list_is}

any_own : (requests : List Request) (r : Request) → is_own r ≡ true → list_any is_own (requests ++ r ∷ []) ≡ true
any_own [] r own = ap (λ (b : Bool). b || false) own
any_own (q ∷ requests) r own = elim (is_own q) as (λ b. (b || list_any is_own (requests ++ r ∷ [])) ≡ true) [ true ↦ refl | false ↦ any_own requests r own ]

not_both : {b : Bool} → b ≡ true → not b ≡ true → ⊥
not_both e f = cc

-- why a list isn't sent to a modem that is free
unwanted : (same : Bool) (number : Option ℕ) → (if true && not same then number else None) ≡ None → (same ≡ true) ⊎ (number ≡ None)
unwanted true number e = inl refl
unwanted false number e = inr e

module _ (s : Setup) where
  IsMerged : List Fact → Type 0
  IsMerged facts = (last_list facts ≡ merged s facts) ⊎ (number_for s (own_subscribe (merged s facts)) facts ≡ None)

  -- once a list is sent, a request of the proxy itself waits
  pub sent_waits : (list : List Pair) (n : ℕ) (past : List Fact) → is_free s (send_under s list (Some n) past) ≡ true → ⊥
  unfolding pending state
  sent_waits list n past free =
      let r : Request = request_of s 0 (own_subscribe list) n past in
      not_both (any_own (pending past) r refl) (and_parts _ (not (list_any is_own (pending past ++ r ∷ []))) free).1

  kept_merged : (past : List Fact) (number : Option ℕ) → number_of_list s (merged s past) past ≡ number → is_free s (send_under s (merged s past) number past) ≡ true → IsMerged (send_under s (merged s past) number past)
  unfolding IsMerged
  kept_merged past (Some n) is free = absurd (sent_waits (merged s past) n past free)
  kept_merged past None is free =
      let same : Bool = is_same_list (merged s past) (last_list past) in
      let number : Option ℕ = number_for s (own_subscribe (merged s past)) past in
      ⊎_elim
      (λ (e : same ≡ true). inl (sym (same_list_is (merged s past) (last_list past) e)))
      (λ (e : number ≡ None). inr e)
      (unwanted same number (ap (λ (b : Bool). if b && not same then number else None) (sym free) ∙ is))

  shut_at_first : (away rest : Bool) → (is_ready (if away then IsAway else IsShut) && rest) ≡ true → ⊥
  shut_at_first true rest e = absurd (cc)
  shut_at_first false rest e = absurd (cc)

  pub last_list_is_merged : (events : List Event) → is_free s (history s events) ≡ true → (last_list (history s events) ≡ merged s (history s events)) ⊎ (number_for s (own_subscribe (merged s (history s events))) (history s events) ≡ None)
  unfolding proxy.history IsMerged state
  last_list_is_merged [] free = absurd (shut_at_first s.starts_away _ free)
  last_list_is_merged (event ∷ events) free = kept_merged (proxy.add_all (mbim_protocol s) (items_of (mbim_protocol s) events event) (EventBegan ∷ history s events)) _ refl free
