-- What holds of every list of subscriptions, of every merge, and of every list of calls, which has the newest first.
use Rattle.std.specs.Prelude.{◌≡◌, ◌↔◌, ℕ, ◌≤◌, true, false, List, ◌∷◌, ◌++◌, length}
use Rattle.std.specs.List.{AllByRecursion, list_any}
use Rattle.kit_bytes.specs.Subscriptions.{Pair, normal_form, merge}
use Rattle.kit_bytes.specs.Indications.{wants}
use Rattle.subscriptions.specs.Clients.{Client, client_in, merged}
use Rattle.subscriptions.specs.Calls.{Call, clients_after, client_if, is_there, is_shown, last_list}

-- a list's normal form wants what the list wants
abbrev pub NormalFormsWantTheSame : Type 0
NormalFormsWantTheSame = (list : List Pair) (uuid : List ℕ) (cid : ℕ) → wants (normal_form list) uuid cid ≡ wants list uuid cid

-- a list to which pairs are pushed is that of all pairs pushed so far, in whatever portions they come
abbrev pub ListsAreOfAllPushed : Type 0
ListsAreOfAllPushed = (pairs pushed : List Pair) → normal_form (pushed ++ normal_form pairs) ≡ normal_form (pushed ++ pairs)

-- a merge wants what one of its lists wants, and nothing else
abbrev pub MergesWantWhatListsWant : Type 0
MergesWantWhatListsWant = (lists : List (List Pair)) (uuid : List ℕ) (cid : ℕ) → wants (merge lists) uuid cid ≡ list_any (λ list. wants list uuid cid) lists

-- the merge of 64 clients with 30 pairs each has at most 1,920
abbrev pub MergesAreShort : Type 0
MergesAreShort = (clients : List Client) → length clients ≤ 64 → AllByRecursion (λ client. length client.list ≤ 30) clients → length (merged clients) ≤ 1920

-- who isn't shown changes no merge
abbrev pub HiddenClientsDontCount : Type 0
HiddenClientsDontCount = (front behind : List Client) (client : Client) → client.shown ≡ false → merged (front ++ client ∷ behind) ≡ merged (front ++ behind)

-- each client is what the calls say of it
abbrev pub ClientsAreWhatCallsSay : Type 0
ClientsAreWhatCallsSay = (calls : List Call) (conn : ℕ) → client_in conn (clients_after calls) ≡ client_if (is_there conn calls) conn calls

-- the merge wants what a client that is there and shown wants, by its last list, and nothing else
abbrev pub MergesAreOfTheShown : Type 0
MergesAreOfTheShown = (calls : List Call) (uuid : List ℕ) (cid : ℕ)
    → (wants (merged (clients_after calls)) uuid cid ≡ true) ↔ ((conn : ℕ) × (is_there conn calls ≡ true) × (is_shown conn calls ≡ true) × (wants (last_list conn calls) uuid cid ≡ true))
