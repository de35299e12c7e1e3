-- The modem's takings bring one request of the proxy itself at most.
use Rattle.std.proofs.Common.{◌≡◌, ℕ, Bool, true, false, not, ◌&&◌, if◌then◌else◌, List, ◌∷◌, drop, refl, ap, sym, ◌∙◌, drop-drop, Option, Some, None}
use Rattle.kit_bytes.specs.Subscriptions.{Pair}
use Rattle.proxy_history.specs.Events.{Event}
use Rattle.proxy_history.specs.Facts.{Fact, EventBegan, ModemTaken}
use Rattle.proxy_history.specs.Requests.{pending}
use Rattle.proxy_history.specs.Modem as modem
use Rattle.proxy_history.specs.History as proxy
use Rattle.mbim_proxy.specs.Setup.{Setup}
use Rattle.mbim_services.specs.SubscribeLists.{is_same_list}
use Rattle.mbim_proxy.specs.ModemStates.{state}
use Rattle.mbim_proxy.specs.Lists.{merged, last_list}
use Rattle.mbim_proxy.specs.Forwarding.{wire, own_subscribe, number_for}
use Rattle.mbim_proxy.specs.OwnList.{is_free, number_of_list, send_under, finish}
use Rattle.mbim_proxy.specs.History.{history, to_modem, modem_queue}
use Rattle.mbim_proxy.specs.Laws.{BringsOneRequest}
use Rattle.mbim_proxy.proofs.Merging.{sent_waits}

module _ (s : Setup) (count : ℕ) (events : List Event) where
  abbrev was_taken : List Fact
  was_taken = ModemTaken count ∷ EventBegan ∷ history s events

  taken : modem.modem_queue (wire s) was_taken ≡ drop count (modem_queue s events)
  unfolding modem.to_modem modem.modem_taken_count
  taken = sym (drop-drop count (modem.modem_taken_count (history s events)) (to_modem s events))

  same_free : is_free s was_taken ≡ is_free s (history s events)
  unfolding state pending
  same_free = refl

  -- nothing is asked while nothing may be
  asks_nothing : is_free s (history s events) ≡ false → finish s was_taken ≡ was_taken
  asks_nothing busy =
      let list : List Pair = merged s was_taken in
      ap (λ (b : Bool). send_under s list (if b && not (is_same_list list (last_list was_taken)) then number_for s (own_subscribe list) was_taken else None) was_taken) (same_free ∙ busy)

  -- where something may be asked still, nothing was
  asked_nothing : (number : Option ℕ) → is_free s (send_under s (merged s was_taken) number was_taken) ≡ true → send_under s (merged s was_taken) number was_taken ≡ was_taken
  asked_nothing (Some n) free = absurd (sent_waits s (merged s was_taken) n was_taken free)
  asked_nothing None free = refl

  abbrev queue_of : List Fact → List ℕ
  queue_of facts = modem.modem_queue (wire s) facts

  pub takings_bring_one_request : BringsOneRequest s count events
  unfolding proxy.history proxy.add_all
  takings_bring_one_request = record {
    none = λ busy. ap queue_of (asks_nothing busy) ∙ taken;
    stays = λ busy. ap (is_free s) (asks_nothing busy) ∙ same_free ∙ busy;
    one = λ free. ap queue_of (asked_nothing (number_of_list s (merged s was_taken) was_taken) free) ∙ taken;
  }
