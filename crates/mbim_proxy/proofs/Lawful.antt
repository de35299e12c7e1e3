-- The definitions of an MBIM proxy keep the rules by which it can be served.
use Rattle.std.proofs.Common.{◌≡◌, ℕ, ◌≤◌, Bool, true, false, not, if◌then◌else◌, List, ◌∷◌, ◌++◌, length, refl, ap, arith, length-append, Option, Some, None}
use Rattle.std.proofs.lemmas.Bool.{and_parts}
use Rattle.std.proofs.lemmas.List.{length-drop}
use Rattle.kit_bytes.specs.Subscriptions.{Pair}
use Rattle.proxy_history.specs.Facts.{Fact, Request, EventBegan, Forwarded, ListSent, ModemTaken}
use Rattle.proxy_history.specs.Connections.{present}
use Rattle.proxy_history.specs.Modem.{to_modem, modem_taken_count}
use Rattle.proxy_history.specs.View.{view}
use Rattle.proxy_history.specs.Proxy.{IsLawful}
use Rattle.proxy_history.specs.Lawful.{backlog}
use Rattle.proxy_history.proofs.Lawful.{proxy_is_lawful}
use Rattle.mbim_proxy.specs.Setup.{Setup}
use Rattle.mbim_services.specs.SubscribeLists.{is_same_list}
use Rattle.mbim_proxy.specs.Lists.{merged, last_list}
use Rattle.mbim_proxy.specs.Forwarding.{wire, wire_of, own_subscribe, number_for, request_of, forward}
use Rattle.mbim_proxy.specs.OwnList.{is_free, is_wanted, number_of_list, send_under}
use Rattle.mbim_proxy.specs.History.{mbim_protocol}
use Rattle.mbim_proxy.specs.Proxy.{own_bytes, proxy_of}
use Rattle.mbim_proxy.proofs.Lengths.{wire_length}
use Rattle.mbim_proxy.proofs.SameLists.{list_itself}
use Rattle.mbim_proxy.proofs.Verdicts.{given_if}
use Rattle.mbim_proxy.proofs.Walk.{Asks, orderly}

-- ---- what it may still ask by itself ----

module _ (s : Setup) where
  abbrev own_if : Bool → List Pair → ℕ
  own_if same list = if same then 0 else length (wire_of s 0 (own_subscribe list))

  abbrev own : List Fact → ℕ
  own past = own_bytes s past

  abbrev total : List Fact → ℕ
  total past = backlog (mbim_protocol s) own past

  begun : (past : List Fact) → own (EventBegan ∷ past) ≡ own past
  unfolding view present last_list
  begun past = refl

  taken : (count : ℕ) (past : List Fact) → own (ModemTaken count ∷ past) ≡ own past
  unfolding view present last_list
  taken count past = refl

  none_left : (past : List Fact) (r : Request) → own (ListSent (merged s past) ∷ Forwarded r ∷ past) ≡ 0
  unfolding view present last_list
  none_left past r = ap (λ (b : Bool). own_if b (merged s past)) (list_itself (merged s past))

  forwarded : (past : List Fact) (n : ℕ) → is_same_list (merged s past) (last_list past) ≡ false
      → total (ListSent (merged s past) ∷ forward s 0 (own_subscribe (merged s past)) n past) ≤ total past
  unfolding to_modem modem_taken_count
  forwarded past n differs =
      let r : Request = request_of s 0 (own_subscribe (merged s past)) n past in
      let before : own past ≡ length (wire_of s 0 (own_subscribe (merged s past))) = ap (λ (b : Bool). own_if b (merged s past)) differs in
      let all : List ℕ = to_modem (wire s) past in
      let bytes : List ℕ = wire_of s n (own_subscribe (merged s past)) in
      omega (arith, none_left past r, before, wire_length s n 0 (own_subscribe (merged s past)), length-drop (modem_taken_count past) (all ++ bytes), length-drop (modem_taken_count past) all, length-append all bytes)

  sends : (number : Option ℕ) (past : List Fact) → number_of_list s (merged s past) past ≡ number → total (send_under s (merged s past) number past) ≤ total past
  sends None past is = omega arith
  sends (Some n) past is =
      let list : List Pair = merged s past in
      let given = given_if (is_wanted s list past) (number_for s (own_subscribe list) past) n is in
      forwarded past n (isnt (is_same_list list (last_list past)) (and_parts (is_free s past) (not (is_same_list list (last_list past))) given.0).1)
    where
      isnt : (b : Bool) → not b ≡ true → b ≡ false
      isnt true e = absurd (cc)
      isnt false e = refl

  pub proxies_are_lawful : IsLawful (proxy_of s)
  proxies_are_lawful = proxy_is_lawful (mbim_protocol s) (Asks s) (orderly s) own (record { begun = begun; taken = taken; asked = λ past sound. sends _ past refl })
