-- What a protocol brings to what a client would meet if it were alone with the modem. A list of facts has the newest first.
use Rattle.std.specs.Prelude.{ℕ, List, Option}
use Rattle.proxy_history.specs.Items.{Item}
use Rattle.proxy_history.specs.Facts.{Fact}

pub record Alone : Type 0 where
  -- the parts in which a client's piece comes that follows these bytes of it: the modem may speak behind each
  pub parts : (before piece : List ℕ) → List (List ℕ)
  -- the bytes that the modem says to the client with an item: `past` is the history of all just before the item, and `own` the client's history so far
  pub hears : (conn : ℕ) → Item → (past own : List Fact) → Option (List ℕ)
  -- the bytes by which the modem answers at once a request of the proxy itself, where one waits for that
  pub answers : (own : List Fact) → Option (List ℕ)
  -- a fact as a client's part of a history has it, in which what comes to the same for the client reads the same; the newest first
  pub restated : Fact → List Fact
