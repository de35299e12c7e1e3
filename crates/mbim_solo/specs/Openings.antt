-- What the modem's state tells of the requests that wait, and of the clients. A list of facts has the newest first.
use Rattle.std.specs.Prelude.{◌≡◌, ℕ, Bool, true, false, List, [], ◌∷◌, None}
use Rattle.std.specs.List.{list_any}
use Rattle.proxy_history.specs.Events.{Event}
use Rattle.proxy_history.specs.Facts.{Fact, Request}
use Rattle.proxy_history.specs.Connections.{is_present}
use Rattle.proxy_history.specs.Requests.{pending}
use Rattle.proxy_history.specs.Modem.{is_away}
use Rattle.proxy_history.specs.Coming.{AreSound}
use Rattle.mbim_proxy.specs.Setup.{Setup}
use Rattle.mbim_proxy.specs.Known.{Known}
use Rattle.mbim_proxy.specs.Step.{known_now}
use Rattle.mbim_proxy.specs.ModemStates.{ModemState, IsAway, IsShut, IsOpening, IsReady, is_own_open, state}
use Rattle.mbim_proxy.specs.History.{mbim_protocol, history}

-- the only request that waits is the proxy's own to open
pub record WaitsToOpen (requests : List Request) : Type 0 where
  pub request : Request
  pub only : requests ≡ request ∷ []
  pub opens : is_own_open request ≡ true
  pub own : request.conn ≡ 0

-- a modem that isn't open is asked nothing but to open, and that once
abbrev pub WaitFor : ModemState → List Request → Type 0
WaitFor IsAway requests = requests ≡ []
WaitFor IsShut requests = requests ≡ []
WaitFor IsOpening requests = WaitsToOpen requests
WaitFor IsReady requests = list_any is_own_open requests ≡ false

-- no client is open where the modem isn't, and none waits for that but while the modem opens
abbrev pub MayBeOpen : ModemState → Known → Type 0
MayBeOpen IsAway known = (known.opened ≡ false) × (known.waits ≡ None)
MayBeOpen IsShut known = (known.opened ≡ false) × (known.waits ≡ None)
MayBeOpen IsOpening known = known.opened ≡ false
MayBeOpen IsReady known = known.waits ≡ None

abbrev pub is_absent : ModemState → Bool
is_absent IsAway = true
is_absent _ = false

pub record IsInOrder (s : Setup) (past : List Fact) : Type 0 where
  pub requests : WaitFor (state s.starts_away past) (pending past)
  pub clients : (c : ℕ) → is_present c past ≡ true → MayBeOpen (state s.starts_away past) (known_now s c past)
  pub away : is_away s.starts_away past ≡ is_absent (state s.starts_away past)
  -- the proxy itself is no client
  pub nobody : is_present 0 past ≡ false

abbrev pub OpeningsAreInOrder : Type 0
OpeningsAreInOrder = (s : Setup) (events : List Event) → AreSound (mbim_protocol s) events → IsInOrder s (history s events)
