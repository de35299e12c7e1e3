-- The history of a proxy: the facts that it noted and decided. A list of facts has the newest first.
-- A fact carries whole values, so that no question about it needs the facts before it.
use Rattle.std.specs.Prelude.{ℕ, List}
use Rattle.kit_bytes.specs.Subscriptions.{Pair}

-- why a connection ended
pub data Why : Type 0 where
  -- it was one too many, and was never there
  NotAdmitted : Why
  -- its stream held bytes that begin no message
  BadStream : Why
  -- its outbox lacked room for what was due to it
  NoRoom : Why
  -- it went by itself
  Leaving : Why

-- what became of a client's message
pub data Verdict : Type 0 where
  -- the client's own view decides it, and the reply too
  Own : Verdict
  -- as many requests of the client wait as may
  Share : Verdict
  -- the client id is another connection's
  Foreign : Verdict
  -- the modem is away
  Away : Verdict
  -- no transaction number is free, or the modem's outbox lacks room
  Full : Verdict
  -- it went to the modem
  Forward : Verdict
  -- it asks to open the modem, which is open already
  Ready : Verdict
  -- it asks to open the modem, and is answered when that is open
  Waits : Verdict

-- a request that was queued for the modem
pub record Request : Type 0 where
  -- counts the requests from 1
  pub serial : ℕ
  -- the sender, and which of its messages this is, counted from 1; sender 0 is the proxy itself
  pub conn : ℕ
  pub place : ℕ
  -- the number space, and the transaction number that the modem sees
  pub space : ℕ
  pub number : ℕ
  -- the sender's bytes, with the sender's own number
  pub message : List ℕ
  -- the time from which on nobody waits for the answer, in milliseconds
  pub deadline : ℕ

pub data Fact : Type 0 where
  -- an event begins; its facts follow
  EventBegan : Fact
  -- ---- connections ----
  Admitted : (conn : ℕ) → Fact
  Ended : (conn : ℕ) → (why : Why) → Fact
  -- a message of a client, its place among the client's messages, and the verdict on it
  Judged : (conn : ℕ) → (place : ℕ) → (message : List ℕ) → (verdict : Verdict) → Fact
  -- its socket took so many bytes of its outbox
  Taken : (conn : ℕ) → (count : ℕ) → Fact
  -- ---- requests ----
  Forwarded : (request : Request) → Fact
  Answered : (request : Request) → (message : List ℕ) → Fact
  -- the modem answered with a client id that another connection holds, and the sender is refused
  IdHeld : (request : Request) → Fact
  -- the answer came when nobody waited for it any more
  Late : (request : Request) → Fact
  Expired : (request : Request) → Fact
  -- the modem is gone or began anew, and won't answer
  Aborted : (request : Request) → Fact
  -- ---- what else the modem sent ----
  Indicated : (message : List ℕ) → (receivers : List ℕ) → Fact
  -- a message that is for nobody
  Stray : Fact
  -- ---- client ids of the modem's services ----
  Granted : (conn : ℕ) → (service : ℕ) → (cid : ℕ) → Fact
  Freed : (conn : ℕ) → (service : ℕ) → (cid : ℕ) → Fact
  -- ---- opening and subscribing, where clients open the modem ----
  -- the proxy's own request to open the modem ended with this status, and these connections waited for that
  OpeningEnded : (status : ℕ) → (receivers : List ℕ) → Fact
  -- a loss of the modem closed these connections' sessions
  SessionsClosed : (receivers : List ℕ) → Fact
  -- the proxy asked the modem for this list of subscriptions
  ListSent : (list : List Pair) → Fact
  -- ---- the modem and the clock ----
  -- the modem began anew, and knows of no request and no client id
  Reset : Fact
  ModemLost : Fact
  ModemReturned : Fact
  ModemTaken : (count : ℕ) → Fact
  TimeIs : (time : ℕ) → Fact
