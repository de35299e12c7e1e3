-- What each event of a rig adds to its facts. Lists of events and of facts have the newest first.
use Rattle.std.proofs.Common.{◌≡◌, ℕ, ◌+◌, ◌^◌, ◌<◌, ◌≤◌, max, true, false, ◌==◌, if◌then◌else◌, List, [], ◌∷◌, ◌++◌, length, drop}
use Rattle.proxy_history.specs.Events.{Event, Joined, Piece, ModemPiece, Now, Took, ModemTook}
use Rattle.proxy_history.specs.Facts.{Fact, Request, EventBegan, Own, Share, Forward, Ready, Waits, Admitted, Judged, Taken, Forwarded, Answered, Expired, OpeningEnded, ModemTaken, TimeIs}
use Rattle.proxy_history.specs.Connections.{is_present, message_count}
use Rattle.proxy_history.specs.Requests.{in_use, pending, is_pending, forward_count, deadline_of}
use Rattle.proxy_history.specs.Modem.{now, modem_queue}
use Rattle.proxy_history.specs.Noting.{each_pending}
use Rattle.proxy_history.specs.Unanswered.{due}
use Rattle.mbim_proxy.specs.ModemStates.{is_own_open}
use Rattle.mbim_proxy.specs.Forwarding.{wire}
use Rattle.mbim_proxy.specs.History.{history}
use Rattle.rig_runs.specs.Rig.{time_limit}
use Rattle.rig_runs.specs.Mbim.{setup}
use Rattle.rig_runs.specs.MbimExamples.{configuration, open_2}
use Rattle.rig_laws_mbim.proofs.Messages.{query, cid_for, own_open_under, opened}
use Rattle.rig_laws_mbim.proofs.Harmless.{AreHarmless}
use Rattle.rig_laws_mbim.proofs.Hears.{Suits, answered_or_late}

abbrev pub began : List Fact → List Fact
began past = EventBegan ∷ past

-- the bytes that are new in the modem's queue
abbrev pub new_bytes : (past after : List Fact) → List ℕ
new_bytes past after = drop (length (modem_queue (wire setup) past)) (modem_queue (wire setup) after)

-- ---- requests that are new ----

-- the next request, which waits for its answer so long
pub record IsNext (r : Request) (past : List Fact) : Type 0 where
  pub serial : r.serial ≡ forward_count past + 1
  pub deadline : r.deadline ≡ deadline_of (now past) time_limit
  pub below : r.number < 2 ^ 32

-- a client's query
pub record IsCommand (r : Request) : Type 0 where
  pub choice : ℕ
  pub client : (r.conn == 0) ≡ false
  pub command : is_own_open r ≡ false
  pub wire_is : wire setup r ≡ query (cid_for choice) r.number

-- the proxy's own request to open
pub record IsOwnOpen (r : Request) : Type 0 where
  pub own : r.conn ≡ 0
  pub opens : is_own_open r ≡ true
  pub wire_is : wire setup r ≡ own_open_under r.number

-- ---- a client says a message ----

pub record IsNamed (c : ℕ) (past : List Fact) : Type 0 where
  pub few : c ≤ 64
  pub there : is_present c past ≡ true

-- it names the device
pub record Names (c : ℕ) (m : List ℕ) (past after : List Fact) : Type 0 where
  pub is : m ≡ configuration
  pub count : message_count c past ≡ 0
  pub facts : after ≡ Judged c (message_count c past + 1) configuration Own ∷ began past
  pub new : new_bytes past after ≡ []

-- it asks to open the modem, which is open
pub record FindsOpen (c : ℕ) (m : List ℕ) (past after : List Fact) : Type 0 where
  pub is : m ≡ open_2
  pub count : message_count c past ≡ 1
  pub facts : after ≡ Judged c (message_count c past + 1) open_2 Ready ∷ began past
  pub new : new_bytes past after ≡ []

-- or has it opened
pub record Opens (c : ℕ) (m : List ℕ) (past after : List Fact) : Type 0 where
  pub is : m ≡ open_2
  pub first : c ≡ 1
  pub count : message_count c past ≡ 1
  pub r : Request
  pub next : IsNext r past
  pub own : IsOwnOpen r
  pub facts : after ≡ Forwarded r ∷ Judged c (message_count c past + 1) open_2 Waits ∷ began past
  pub new : new_bytes past after ≡ wire setup r

-- it queries
pub record Queries (c : ℕ) (m : List ℕ) (past after : List Fact) : Type 0 where
  pub choice : ℕ
  pub number : ℕ
  pub is : m ≡ query (cid_for choice) number
  pub count : 2 ≤ message_count c past
  pub r : Request
  pub next : IsNext r past
  pub command : IsCommand r
  pub sender : r.conn ≡ c
  pub place : r.place ≡ message_count c past + 1
  pub facts : after ≡ Forwarded r ∷ Judged c (message_count c past + 1) m Forward ∷ began past
  pub new : new_bytes past after ≡ wire setup r

-- or it would query, but as many of its commands wait as may
pub record PassesShare (c : ℕ) (m : List ℕ) (past after : List Fact) : Type 0 where
  pub choice : ℕ
  pub number : ℕ
  pub is : m ≡ query (cid_for choice) number
  pub count : 2 ≤ message_count c past
  pub facts : after ≡ Judged c (message_count c past + 1) m Share ∷ began past
  pub new : new_bytes past after ≡ []

pub data HasSaid (c : ℕ) (m : List ℕ) (past after : List Fact) : Type 0 where
  naming : Names c m past after → HasSaid c m past after
  finding : FindsOpen c m past after → HasSaid c m past after
  having_opened : Opens c m past after → HasSaid c m past after
  querying : Queries c m past after → HasSaid c m past after
  passing : PassesShare c m past after → HasSaid c m past after

-- ---- the modem answers ----

-- a query
pub record Answers (m : List ℕ) (past after : List Fact) : Type 0 where
  pub r : Request
  pub suits : Suits m r
  pub before : List Request
  pub behind : List Request
  pub uses : in_use past ≡ before ++ r ∷ behind
  pub facts : after ≡ answered_or_late (is_pending r past) r m (began past)

-- or the request to open
pub record IsOpened (m : List ℕ) (past after : List Fact) : Type 0 where
  pub r : Request
  pub below : r.number < 2 ^ 32
  pub is : m ≡ opened r.number
  pub own : r.conn ≡ 0
  pub opens : is_own_open r ≡ true
  pub uses : in_use past ≡ r ∷ []
  pub facts : after ≡ OpeningEnded 0 (1 ∷ []) ∷ Answered r m ∷ began past

pub data HasHeard (m : List ℕ) (past after : List Fact) : Type 0 where
  answering : Answers m past after → HasHeard m past after
  ending : IsOpened m past after → HasHeard m past after

-- ---- every event ----

-- those of the requests that wait expire
abbrev pub expired_by : List Request → List Fact → List Fact
expired_by requests past = each_pending (λ r before. Expired r ∷ before) requests past

pub record Joins (c : ℕ) (past after : List Fact) : Type 0 where
  pub count : message_count c past ≡ 0
  pub facts : after ≡ Admitted c ∷ began past

abbrev pub Passes : (time : ℕ) → (past after : List Fact) → Type 0
Passes time past after = after ≡ expired_by (due (max time (now past)) (pending past)) (TimeIs (max time (now past)) ∷ began past)

abbrev pub Adds : Event → (past after : List Fact) → Type 0
Adds (Joined c) past after = Joins c past after
Adds (Piece c m) past after = IsNamed c past × HasSaid c m past after
Adds (ModemPiece m) past after = HasHeard m past after
Adds (Now time) past after = Passes time past after
Adds (Took c count) past after = after ≡ (if is_present c past then Taken c count ∷ began past else began past)
Adds (ModemTook count) past after = after ≡ ModemTaken count ∷ began past
Adds _ past after = ⊥

-- an event behind these
pub record Moment (event : Event) (events : List Event) : Type 0 where
  pub adds : Adds event (history setup events) (history setup (event ∷ events))
  pub harmless : AreHarmless (history setup (event ∷ events))

-- so it was with each of them
abbrev pub AreMoments : List Event → Type 0
AreMoments [] = Unit {0}
AreMoments (event ∷ events) = Moment event events × AreMoments events
