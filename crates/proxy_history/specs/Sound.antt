-- What a fact takes for granted of the facts before it. A list of facts has the newest first.
-- A proxy whose history is sound has all that holds of every sound history.
use Rattle.std.specs.Prelude.{◌≡◌, ◌≢◌, ℕ, ◌+◌, ◌≤◌, ◌<◌, Bool, true, false, ◌||◌, ◌==◌, List, [], ◌∷◌, ◌++◌, length, Some, All, AllPairs, Contains}
use Rattle.proxy_history.specs.Limits.{Limits}
use Rattle.proxy_history.specs.Facts.{Why, NotAdmitted, Fact, Request, Admitted, Ended, Judged, Taken, Forwarded, Answered, IdHeld, Late, Expired, Aborted, Indicated, OpeningEnded, SessionsClosed, Granted, TimeIs}
use Rattle.proxy_history.specs.Connections.{present, is_present}
use Rattle.proxy_history.specs.Requests.{in_use, pending, forward_count, numbers_in_use, next_number}
use Rattle.proxy_history.specs.ClientIds.{held, holder, is_other}
use Rattle.proxy_history.specs.Modem.{now}
use Rattle.proxy_history.specs.View.{Entry, End, Blank, view}

abbrev pub IsPresent : ℕ → List Fact → Type 0
IsPresent c past = is_present c past ≡ true

-- the proxy itself, or a connection that is there
abbrev pub IsParty : ℕ → List Fact → Type 0
IsParty c past = (c == 0 || is_present c past) ≡ true

-- nobody else holds the client id
abbrev pub IsFreeFor : ℕ → ℕ → ℕ → List Fact → Type 0
IsFreeFor c service cid past = is_other c (holder service cid past) ≡ false

-- a request is the next one of a party, with the next number of its space
pub record IsNextRequest (limits : Limits) (r : Request) (past : List Fact) : Type 0 where
  pub serial : r.serial ≡ forward_count past + 1
  pub sender : IsParty r.conn past
  pub number : next_number (limits.in_use r.space) (limits.top r.space) r.space past ≡ Some r.number

abbrev pub MayFollow : Limits → Fact → List Fact → Type 0
MayFollow limits (Admitted c) past = length (present past) < limits.connections
MayFollow limits (Ended c NotAdmitted) past = limits.connections ≤ length (present past)
MayFollow limits (Ended c why) past = IsPresent c past
MayFollow limits (Judged c place message verdict) past = IsPresent c past
MayFollow limits (Taken c count) past = IsPresent c past
MayFollow limits (Forwarded r) past = IsNextRequest limits r past
MayFollow limits (Answered r message) past = Contains (pending past) r
MayFollow limits (IdHeld r) past = Contains (pending past) r
MayFollow limits (Expired r) past = Contains (pending past) r
MayFollow limits (Aborted r) past = Contains (pending past) r
MayFollow limits (Late r) past = Contains (in_use past) r
MayFollow limits (Indicated message receivers) past = All (λ c. IsPresent c past) receivers
MayFollow limits (OpeningEnded status receivers) past = All (λ c. IsPresent c past) receivers
MayFollow limits (SessionsClosed receivers) past = All (λ c. IsPresent c past) receivers
MayFollow limits (Granted c service cid) past = IsParty c past × IsFreeFor c service cid past
MayFollow limits (TimeIs time) past = now past ≤ time
MayFollow limits _ past = Unit {0}

abbrev pub IsSound : Limits → List Fact → Type 0
IsSound limits [] = Unit {0}
IsSound limits (fact ∷ past) = MayFollow limits fact past × IsSound limits past

-- ---- what holds of every sound history ----

-- two requests in use have different serial numbers, and in one space different transaction numbers
abbrev pub Differ : Request → Request → Type 0
Differ q r = (q.serial ≢ r.serial) × (q.space ≡ r.space → q.number ≢ r.number)

abbrev pub RequestsInUseDiffer : Type 0
RequestsInUseDiffer = (limits : Limits) (facts : List Fact)
    → ((space : ℕ) → limits.in_use space ≤ limits.top space) → IsSound limits facts → AllPairs Differ (in_use facts)

-- who waits for an answer and who holds a client id is there, or is the proxy itself
abbrev pub WaitingArePresent : Type 0
WaitingArePresent = (limits : Limits) (facts : List Fact) → IsSound limits facts → All (λ r. IsParty r.conn facts) (pending facts)

abbrev pub HoldersArePresent : Type 0
HoldersArePresent = (limits : Limits) (facts : List Fact) → IsSound limits facts → All (λ g. IsParty g.conn facts) (held facts)

-- no more connections are there, and no more numbers in use, than may be
abbrev pub FewArePresent : Type 0
FewArePresent = (limits : Limits) (facts : List Fact) → IsSound limits facts → length (present facts) ≤ limits.connections

abbrev pub FewAreInUse : Type 0
FewAreInUse = (limits : Limits) (facts : List Fact) (space : ℕ) → IsSound limits facts → length (numbers_in_use space facts) ≤ limits.in_use space

-- a connection of this name is let in or refused
abbrev pub begins_anew : ℕ → Fact → Bool
begins_anew c (Admitted d) = d == c
begins_anew c (Ended d NotAdmitted) = d == c
begins_anew c _ = false

-- the view of a connection that ended stays as it is, until one of that name comes anew
abbrev pub GoneViewsStay : Type 0
GoneViewsStay = (limits : Limits) (blank : Blank) (c : ℕ) (why : Why) (later earlier : List Fact)
    → c ≢ 0 → IsSound limits (later ++ Ended c why ∷ earlier) → All (λ fact. begins_anew c fact ≡ false) later
    → view blank c (later ++ Ended c why ∷ earlier) ≡ view blank c (Ended c why ∷ earlier)

-- an entry that says how a connection ended is the newest of its view
abbrev pub is_end : Entry → Bool
is_end (End why) = true
is_end _ = false

abbrev pub HasNoEnd : List Entry → Type 0
HasNoEnd entries = All (λ entry. is_end entry ≡ false) entries

abbrev pub EndsWithItsEnd : List Entry → Type 0
EndsWithItsEnd [] = Unit {0}
EndsWithItsEnd (entry ∷ entries) = HasNoEnd entries

abbrev pub EndsAreLast : Type 0
EndsAreLast = (limits : Limits) (blank : Blank) (c : ℕ) (facts : List Fact)
    → c ≢ 0 → IsSound limits facts → EndsWithItsEnd (view blank c facts)
