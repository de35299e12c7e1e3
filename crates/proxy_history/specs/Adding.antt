-- What each item may add to the history, and the protocols that add no more than that. A list of facts has the newest first.
use Rattle.std.specs.Prelude.{◌≡◌, ◌⊎◌, ◌≤◌, ℕ, ◌+◌, max, false, true, List, [], ◌∷◌, ◌++◌, length, Contains}
use Rattle.proxy_history.specs.Limits.{Limits}
use Rattle.proxy_history.specs.Items.{Item, Joins, Says, GoesBad, Leaves, ModemSays, ModemIsLost, ModemReturns, ClockShows, Takes, ModemTakes}
use Rattle.proxy_history.specs.Facts.{NotAdmitted, BadStream, NoRoom, Leaving, Fact, Request, Admitted, Ended, Judged, Taken, Forwarded, Answered, IdHeld, Late, Expired, Aborted, Indicated, Stray, Granted, Freed, OpeningEnded, SessionsClosed, ListSent, Reset, ModemLost, ModemReturned, ModemTaken, TimeIs}
use Rattle.proxy_history.specs.Connections.{is_present}
use Rattle.proxy_history.specs.Modem.{now, modem_queue}
use Rattle.proxy_history.specs.Wording.{Wording}
use Rattle.proxy_history.specs.Noting.{rendering}
use Rattle.proxy_history.specs.Sound.{IsPresent, MayFollow, IsSound}
use Rattle.proxy_history.specs.Protocol.{Protocol}
use Rattle.proxy_history.specs.History.{known_of}

-- ---- facts that were added ----

-- each fact may stand behind those before it
abbrev pub AreBehind : (Fact → List Fact → Type 0) → List Fact → List Fact → Type 0
AreBehind May [] past = Unit {0}
AreBehind May (fact ∷ facts) past = May fact (facts ++ past) × AreBehind May facts past

-- the facts that were there stand as they did, and those behind them may stand there
pub record Extends (May : Fact → List Fact → Type 0) (past after : List Fact) : Type 0 where
  pub facts : List Fact
  pub whole : after ≡ facts ++ past
  pub may : AreBehind May facts past

-- each connection that is there got all that was due to it
abbrev pub AllFit : {Known : Type 0} → Limits → Wording Known → List Fact → Type 0
AllFit limits wording past = (c : ℕ) → is_present c past ≡ true → (rendering limits wording c past).is_over ≡ false

-- and who had no room for what came is there no more
pub record Adds {Known : Type 0} (limits : Limits) (wording : Wording Known) (May : Fact → List Fact → Type 0) (past after : List Fact) : Type 0 where
  pub extends : Extends May past after
  pub fits : AllFit limits wording past → AllFit limits wording after

-- ---- which fact an item may add ----

abbrev pub MayAdd : Item → Fact → List Fact → Type 0
-- who joins is let in or refused
MayAdd (Joins c) (Admitted d) past = d ≡ c
MayAdd (Joins c) (Ended d NotAdmitted) past = d ≡ c
-- a message is judged; it may be forwarded, or have the proxy itself ask the modem; its sender may hold an id for it, and ends where it has no room for the reply
MayAdd (Says c m) (Judged d place message verdict) past = (d ≡ c) × (message ≡ m)
MayAdd (Says c m) (Forwarded r) past = (r.conn ≡ c) ⊎ (r.conn ≡ 0)
MayAdd (Says c m) (Granted d service cid) past = d ≡ c
MayAdd (Says c m) (Ended d NoRoom) past = d ≡ c
-- the end and the takings of a connection are of no other one
MayAdd (GoesBad c) (Ended d BadStream) past = d ≡ c
MayAdd (Leaves c) (Ended d Leaving) past = d ≡ c
MayAdd (Takes c count) (Taken d taken) past = (d ≡ c) × (taken ≡ count)
-- the modem answers, tells, and begins anew; who has no room for what it brings ends
MayAdd (ModemSays m) (Answered r message) past = message ≡ m
MayAdd (ModemSays m) (IdHeld r) past = Unit {0}
MayAdd (ModemSays m) (Late r) past = Unit {0}
MayAdd (ModemSays m) (Aborted r) past = Unit {0}
MayAdd (ModemSays m) (Indicated message receivers) past = Unit {0}
MayAdd (ModemSays m) (OpeningEnded status receivers) past = Unit {0}
MayAdd (ModemSays m) Stray past = Unit {0}
MayAdd (ModemSays m) (Granted c service cid) past = Unit {0}
MayAdd (ModemSays m) (Freed c service cid) past = Unit {0}
MayAdd (ModemSays m) Reset past = Unit {0}
MayAdd (ModemSays m) (Ended c NoRoom) past = Unit {0}
-- where the modem is lost, and where the clock shows the greater time, requests are refused
MayAdd ModemIsLost (Aborted r) past = Unit {0}
MayAdd ModemIsLost (OpeningEnded status receivers) past = Unit {0}
MayAdd ModemIsLost (SessionsClosed receivers) past = Unit {0}
MayAdd ModemIsLost (Ended c NoRoom) past = Unit {0}
MayAdd ModemIsLost (Freed c service cid) past = c ≡ 0
MayAdd ModemIsLost ModemLost past = Unit {0}
MayAdd (ClockShows time) (TimeIs shown) past = shown ≡ max time (now past)
MayAdd (ClockShows time) (Expired r) past = Unit {0}
MayAdd (ClockShows time) (OpeningEnded status receivers) past = Unit {0}
MayAdd (ClockShows time) (Ended c NoRoom) past = Unit {0}
-- and the proxy itself may ask, and hold an id for that
MayAdd (ClockShows time) (Forwarded r) past = r.conn ≡ 0
MayAdd (ClockShows time) (Granted c service cid) past = c ≡ 0
MayAdd (ClockShows time) (Freed c service cid) past = c ≡ 0
MayAdd ModemReturns ModemReturned past = Unit {0}
MayAdd (ModemTakes count) (ModemTaken taken) past = taken ≡ count
MayAdd _ _ past = ⊥

-- the refusal of a request: the fact that says why, the end of an opening that others wait for, and the ends of those who have no room for it
abbrev pub MayRefuse : Fact → Fact → List Fact → Type 0
MayRefuse why (OpeningEnded status receivers) past = Unit {0}
MayRefuse why (Ended c NoRoom) past = Unit {0}
MayRefuse why (Freed c service cid) past = c ≡ 0
MayRefuse why fact past = fact ≡ why

-- once the clock was told the proxy itself may ask the modem, and hold a client id for that
abbrev pub MayTick : Fact → List Fact → Type 0
MayTick (Forwarded r) past = r.conn ≡ 0
MayTick (Granted c service cid) past = c ≡ 0
MayTick _ past = ⊥

-- at the end of an event the proxy itself may ask the modem
abbrev pub MayFinish : Fact → List Fact → Type 0
MayFinish (Forwarded r) past = r.conn ≡ 0
MayFinish (ListSent list) past = Unit {0}
MayFinish _ past = ⊥

-- ---- protocols that add no more ----

-- what is queued for the modem finds room, and has what each request of the protocol has (`Asks`)
abbrev pub MayAsk : {Known : Type 0} → Protocol Known → (Request → List Fact → Type 0) → Fact → List Fact → Type 0
MayAsk p Asks (Forwarded r) past = (length (modem_queue p.wire past) + length (p.wire r) ≤ p.limits.modem_outbox) × Asks r past
MayAsk p Asks _ past = Unit {0}

-- each request of the history was asked so
abbrev pub AreAsked : {Known : Type 0} → Protocol Known → (Request → List Fact → Type 0) → List Fact → Type 0
AreAsked p Asks [] = Unit {0}
AreAsked p Asks (fact ∷ past) = MayAsk p Asks fact past × AreAsked p Asks past

-- a fact that may be added, and that may stand there in a sound history
abbrev pub Soundly : {Known : Type 0} → Protocol Known → (Request → List Fact → Type 0) → (Fact → List Fact → Type 0) → Fact → List Fact → Type 0
Soundly p Asks May fact past = MayFollow p.limits fact past × May fact past × MayAsk p Asks fact past

abbrev pub AddsSoundly : {Known : Type 0} → Protocol Known → (Request → List Fact → Type 0) → (Fact → List Fact → Type 0) → List Fact → List Fact → Type 0
AddsSoundly p Asks May past after = Adds p.limits p.wording (Soundly p Asks May) past after

-- each of the protocol's own parts adds what it may, to a history that is sound
pub record IsOrderly {Known : Type 0} (p : Protocol Known) (Asks : Request → List Fact → Type 0) : Type 0 where
  pub client : (c : ℕ) (m : List ℕ) (past : List Fact) → IsSound p.limits past → IsPresent c past
      → AddsSoundly p Asks (MayAdd (Says c m)) past (p.hear_client (known_of p c past) c m past)
  pub modem : (m : List ℕ) (past : List Fact) → IsSound p.limits past → AddsSoundly p Asks (MayAdd (ModemSays m)) past (p.hear_modem m past)
  pub refusal : (why : Fact) (r : Request) (past : List Fact) → Soundly p Asks (MayRefuse why) why past → IsSound p.limits past → AddsSoundly p Asks (MayRefuse why) past (p.refuse why r past)
  -- no other requests are refused than those that are to be
  pub order : (requests : List Request) (r : Request) → Contains (p.order requests) r → Contains requests r
  pub loss : (past : List Fact) → IsSound p.limits past → AddsSoundly p Asks (MayAdd ModemIsLost) past (p.close past)
  pub clock : (past : List Fact) → IsSound p.limits past → AddsSoundly p Asks MayTick past (p.on_clock past)
  pub finish : (past : List Fact) → IsSound p.limits past → AddsSoundly p Asks MayFinish past (p.finish past)
