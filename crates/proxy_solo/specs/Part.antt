-- A client's part of a history: the facts that concern it, with all left out that only the proxy knows.
-- A client that is alone has the same part, whatever the others do. Lists of facts have the newest first.
use Rattle.std.specs.Prelude.{ℕ, Bool, true, false, ◌==◌, List, [], ◌∷◌, ◌++◌, filter}
use Rattle.proxy_history.specs.Facts.{Fact, Request, Admitted, Ended, Judged, Taken, Forwarded, Answered, IdHeld, Late, Expired, Aborted, Indicated, OpeningEnded, SessionsClosed, Granted, Freed, Reset, ModemLost, ModemReturned}
use Rattle.proxy_history.specs.Connections.{contains}
use Rattle.proxy_history.specs.ClientIds.{Grant}
use Rattle.proxy_history.specs.View.{Blank}

-- a request as its sender knows it: counted by its place, and without the number that the modem sees
abbrev pub as_sent : Request → Request
as_sent r = record { serial = r.place; conn = r.conn; place = r.place; space = r.space; number = 0; message = r.message; deadline = r.deadline }

-- what is the client's or everybody's, but for the time, which a client isn't told
abbrev pub concerns : ℕ → Fact → Bool
concerns c (Admitted d) = d == c
concerns c (Ended d why) = d == c
concerns c (Judged d place message verdict) = d == c
concerns c (Taken d count) = d == c
concerns c (Forwarded r) = r.conn == c
concerns c (Answered r message) = r.conn == c
concerns c (IdHeld r) = r.conn == c
concerns c (Late r) = r.conn == c
concerns c (Expired r) = r.conn == c
concerns c (Aborted r) = r.conn == c
concerns c (Indicated message receivers) = contains c receivers
concerns c (OpeningEnded status receivers) = contains c receivers
concerns c (SessionsClosed receivers) = contains c receivers
concerns c (Granted d service cid) = d == c
concerns c (Freed d service cid) = d == c
concerns c Reset = true
concerns c ModemLost = true
concerns c ModemReturned = true
concerns c _ = false

-- without numbers of the modem, and without the other receivers of what several are told
abbrev pub as_known : Blank → ℕ → Fact → Fact
as_known blank c (Forwarded r) = Forwarded (as_sent r)
as_known blank c (Answered r message) = Answered (as_sent r) (blank message)
as_known blank c (IdHeld r) = IdHeld (as_sent r)
as_known blank c (Late r) = Late (as_sent r)
as_known blank c (Expired r) = Expired (as_sent r)
as_known blank c (Aborted r) = Aborted (as_sent r)
as_known blank c (Indicated message receivers) = Indicated message (c ∷ [])
as_known blank c (OpeningEnded status receivers) = OpeningEnded status (c ∷ [])
as_known blank c (SessionsClosed receivers) = SessionsClosed (c ∷ [])
as_known blank c fact = fact

abbrev pub facts_if : Bool → List Fact → List Fact → List Fact
facts_if true facts past = facts ++ past
facts_if false facts past = past

-- `restated` gives a fact as the part has it
unfoldable pub part : Blank → (restated : Fact → List Fact) → ℕ → List Fact → List Fact
part blank restated c [] = []
part blank restated c (fact ∷ past) = facts_if (concerns c fact) (restated (as_known blank c fact)) (part blank restated c past)

-- ---- what the client has of the lists of all ----

abbrev pub request_if : Bool → Request → List Request → List Request
request_if true r requests = r ∷ requests
request_if false r requests = requests

-- its requests, as it knows them
abbrev pub sent_by : ℕ → List Request → List Request
sent_by c [] = []
sent_by c (r ∷ requests) = request_if (r.conn == c) (as_sent r) (sent_by c requests)

-- the client ids that it holds
abbrev pub held_by : ℕ → List Grant → List Grant
held_by c grants = filter (λ g. g.conn == c) grants
