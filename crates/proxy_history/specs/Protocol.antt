-- What a protocol brings to a proxy. A list of facts has the newest first.
use Rattle.std.specs.Prelude.{ℕ, Bool, List}
use Rattle.proxy_history.specs.Limits.{Limits}
use Rattle.proxy_history.specs.Streams.{Framing}
use Rattle.proxy_history.specs.Facts.{Fact, Request}
use Rattle.proxy_history.specs.Wording.{Wording}
use Rattle.proxy_history.specs.Unanswered.{Refusal, Order}

-- `Known` is what a client's own view tells of it
pub record Protocol (Known : Type 0) : Type 0 where
  pub limits : Limits
  -- whether the modem is away at the opening
  pub starts_away : Bool
  -- ---- bytes ----
  -- how a stream is cut into messages
  pub size : Framing
  -- the modem's messages as the proxy hears them: those that come in fragments are joined
  pub deliver : List (List ℕ) → List (List ℕ)
  -- a request's bytes as the modem sees them
  pub wire : Request → List ℕ
  -- the bytes for a client
  pub wording : Wording Known
  -- ---- what is added to the history ----
  -- by a message of a client that is there
  pub hear_client : Known → (conn : ℕ) → (message : List ℕ) → List Fact → List Fact
  -- by a message of the modem
  pub hear_modem : (message : List ℕ) → List Fact → List Fact
  -- by a request that expires or is aborted
  pub refuse : Refusal
  -- the order in which several are
  pub order : Order
  -- by the clock, behind the requests whose time is over
  pub on_clock : List Fact → List Fact
  -- by a loss of the modem, behind the requests that it aborts
  pub close : List Fact → List Fact
  -- at the end of each event
  pub finish : List Fact → List Fact
