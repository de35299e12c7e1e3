-- The proxy's own request to subscribe: it keeps the modem's list that of all open clients together. A list of facts has the newest first.
-- Source: libmbim's src/libmbim-glib/mbim-proxy.c, whose proxy merges its clients' lists too.
use Rattle.std.specs.Prelude.{ℕ, Bool, not, ◌&&◌, List, ◌∷◌, Option, Some, None, if◌then◌else◌}
use Rattle.std.specs.List.{list_any}
use Rattle.kit_bytes.specs.Subscriptions.{Pair}
use Rattle.proxy_history.specs.Facts.{Fact, ListSent}
use Rattle.proxy_history.specs.Requests.{pending}
use Rattle.mbim_services.specs.SubscribeLists.{is_same_list}
use Rattle.mbim_proxy.specs.Setup.{Setup}
use Rattle.mbim_proxy.specs.ModemStates.{is_own, is_ready, state}
use Rattle.mbim_proxy.specs.Lists.{merged, last_list}
use Rattle.mbim_proxy.specs.Forwarding.{own_subscribe, number_for, forward}

-- the modem is open, and no request of the proxy itself waits
abbrev pub is_free : Setup → List Fact → Bool
is_free s past = is_ready (state s.starts_away past) && not (list_any is_own (pending past))

-- the list isn't the one that the modem was last asked for
abbrev pub is_wanted : Setup → List Pair → List Fact → Bool
is_wanted s list past = is_free s past && not (is_same_list list (last_list past))

-- the number under which the modem is asked for it: none where it isn't wanted, or no number or no room is there
abbrev pub number_of_list : Setup → List Pair → List Fact → Option ℕ
number_of_list s list past = if is_wanted s list past then number_for s (own_subscribe list) past else None

-- the list counts as sent, whatever the modem answers
abbrev pub send_under : Setup → List Pair → Option ℕ → List Fact → List Fact
send_under s list None past = past
send_under s list (Some number) past = ListSent list ∷ forward s 0 (own_subscribe list) number past

abbrev pub send_list : Setup → List Pair → List Fact → List Fact
send_list s list past = send_under s list (number_of_list s list past) past

-- at the end of each event
abbrev pub finish : Setup → List Fact → List Fact
finish s past = send_list s (merged s past) past
