-- The list of subscriptions that the modem was last asked for, and those of the open clients. Lists of events and of facts have the newest first.
use Rattle.std.specs.Prelude.{◌≡◌, ◌⊎◌, true, List, None}
use Rattle.proxy_history.specs.Events.{Event}
use Rattle.mbim_proxy.specs.Setup.{Setup}
use Rattle.mbim_proxy.specs.Lists.{merged, last_list}
use Rattle.mbim_proxy.specs.Forwarding.{own_subscribe, number_for}
use Rattle.mbim_proxy.specs.OwnList.{is_free}
use Rattle.mbim_proxy.specs.History.{history}

-- where the modem is open and no request of the proxy itself waits, the modem was last asked for the list of all open clients together; else no number or no room is there to ask for it
abbrev pub LastListIsMerged : Type 0
LastListIsMerged = (s : Setup) (events : List Event) → is_free s (history s events) ≡ true
    → (last_list (history s events) ≡ merged s (history s events)) ⊎ (number_for s (own_subscribe (merged s (history s events))) (history s events) ≡ None)
