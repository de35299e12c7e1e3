-- Who is open, who waits for that, what all of them subscribe to, and what the modem was last asked for. A list of facts has the newest first.
-- Source: libmbim's src/libmbim-glib/mbim-proxy.c, whose proxy merges its clients' lists too.
use Rattle.std.specs.Prelude.{ℕ, ◌==◌, ◌&&◌, List, [], ◌∷◌, ◌++◌, map, filter, is_some, if◌then◌else◌}
use Rattle.kit_bytes.specs.Subscriptions.{Pair, merge}
use Rattle.kit_bytes.specs.Services.{starting_list}
use Rattle.kit_bytes.specs.Indications.{wants}
use Rattle.mbim_frame.specs.declared.status.TheConstants.{SUCCESS}
use Rattle.proxy_history.specs.Facts.{Fact, Ended, Judged, Waits, OpeningEnded, ListSent}
use Rattle.proxy_history.specs.Connections.{present, is_present, without}
use Rattle.mbim_proxy.specs.Setup.{Setup}
use Rattle.mbim_proxy.specs.Step.{known_now}

-- the connections that are open, in order of joining
abbrev pub open_ones : Setup → List Fact → List ℕ
open_ones s past = filter (λ c. (known_now s c past).opened) (present past)

-- the connections that asked to open the modem and had to wait, in the order in which the last such request of each came
unfoldable pub askers : List Fact → List ℕ
askers [] = []
askers (Judged c place message Waits ∷ past) = without c (askers past) ++ c ∷ []
askers (Ended c why ∷ past) = without c (askers past)
askers (_ ∷ past) = askers past

-- those of them that are there and wait still, in the same order
abbrev pub waiting : Setup → List Fact → List ℕ
waiting s past = filter (λ c. is_present c past && is_some (known_now s c past).waits) (askers past)

abbrev pub list_of : Setup → (conn : ℕ) → List Fact → List Pair
list_of s c past = (known_now s c past).list

-- all that they subscribe to
abbrev pub merged : Setup → List Fact → List Pair
merged s past = merge (map (λ c. list_of s c past) (open_ones s past))

-- the last list that the modem was asked for; a modem that opens has the starting list
unfoldable pub last_list : List Fact → List Pair
last_list [] = []
last_list (OpeningEnded status receivers ∷ past) = if status == SUCCESS then starting_list else last_list past
last_list (ListSent list ∷ past) = list
last_list (_ ∷ past) = last_list past

-- ---- who wants an indication ----

abbrev pub receivers : Setup → (uuid : List ℕ) → (cid : ℕ) → List Fact → List ℕ
receivers s uuid cid past = filter (λ c. wants (list_of s c past) uuid cid) (open_ones s past)
