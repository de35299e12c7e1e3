-- What stands in the queues of a client and of the modem at the end of an event, whatever the event brings behind it.
-- A list of facts has the newest first; requests and bytes have the oldest first.
use Rattle.std.specs.Prelude.{◌≡◌, ℕ, ◌+◌, ◌<◌, ◌≤◌, true, false, List, ◌∷◌, ◌++◌, length, map, All}
use Rattle.std.specs.List.{concat}
use Rattle.proxy_history.specs.Limits.{Limits}
use Rattle.proxy_history.specs.Facts.{Fact, Request, Ended, NoRoom}
use Rattle.proxy_history.specs.Connections.{contains, is_present, dropped}
use Rattle.proxy_history.specs.Requests.{in_use}
use Rattle.proxy_history.specs.Modem.{modem_queue}
use Rattle.proxy_history.specs.Rendering.{Rendering}
use Rattle.proxy_history.specs.Wording.{Wording}
use Rattle.proxy_history.specs.Noting.{rendering}
use Rattle.proxy_history.specs.HungUp.{is_beginning}

-- ---- the modem's queue ----

-- the request's bytes wait for the modem, whole and once, behind all that waited for it before, and behind them are those of later requests
pub record WaitsBehind (wire : Request → List ℕ) (request : Request) (past after : List Fact) : Type 0 where
  pub others : List Request
  pub later : All (λ r. request.serial < r.serial) others
  pub in_use : in_use after ≡ in_use past ++ request ∷ others
  pub queue : modem_queue wire after ≡ modem_queue wire past ++ concat (map wire (request ∷ others))

-- ---- a client's queue ----

-- so many bytes would wait with these
abbrev pub waiting_with : List ℕ → Rendering → ℕ
waiting_with bytes before = length before.waiting + length bytes

-- the bytes stand behind all that was there, and wait; more may stand behind them
pub record StandsBehind (bytes : List ℕ) (before after : Rendering) : Type 0 where
  pub more : List ℕ
  pub all : after.bytes ≡ before.bytes ++ bytes ++ more
  pub waiting : after.waiting ≡ before.waiting ++ bytes ++ more

abbrev pub GetsNothing : Rendering → Rendering → Type 0
GetsNothing before after = (after.bytes ≡ before.bytes) × (after.waiting ≡ before.waiting)

-- since the last event began the connection was ended for want of room, and it is to be hung up
pub record IsEndedForRoom (c : ℕ) (facts : List Fact) : Type 0 where
  pub later : List Fact
  pub earlier : List Fact
  pub whole : facts ≡ later ++ Ended c NoRoom ∷ earlier
  pub since : All (λ fact. is_beginning fact ≡ false) later
  pub hung_up : contains c (dropped facts) ≡ true

-- what is due to a client stands in its queue where it finds room, and else the client is ended and gets nothing
pub record IsServed {Known : Type 0} (limits : Limits) (wording : Wording Known) (c : ℕ) (bytes : List ℕ) (past after : List Fact) : Type 0 where
  pub stands : waiting_with bytes (rendering limits wording c past) ≤ limits.outbox
      → StandsBehind bytes (rendering limits wording c past) (rendering limits wording c after)
  pub ended : limits.outbox < waiting_with bytes (rendering limits wording c past)
      → (is_present c after ≡ false) × GetsNothing (rendering limits wording c past) (rendering limits wording c after)
  -- want of room is all that ends a client here, be it for these bytes or for something that comes behind them
  pub why : is_present c after ≡ false → IsEndedForRoom c after
