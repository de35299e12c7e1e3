-- Whether the modem is open for the proxy. A list of facts has the newest first.
-- Source: the USB-IF MBIM specification 1.0, MBIM_OPEN_MSG and MBIM_OPEN_DONE: a function takes commands once it was opened.
use Rattle.std.specs.Prelude.{Bool, true, false, ◌==◌, List, [], ◌∷◌, if◌then◌else◌}
use Rattle.mbim_frame.specs.declared.kind.MessageKind.TheVariants.{Open}
use Rattle.mbim_frame.specs.declared.status.TheConstants.{SUCCESS}
use Rattle.mbim_frame.specs.Head.{is_kind}
use Rattle.proxy_history.specs.Facts.{Fact, Request, Forwarded, OpeningEnded, ModemLost, ModemReturned}

-- the proxy's own request to open: a client's goes to the proxy alone
abbrev pub is_own_open : Request → Bool
is_own_open r = is_kind Open r.message

-- a request of the proxy itself
abbrev pub is_own : Request → Bool
is_own r = r.conn == 0

pub data ModemState : Type 0 where
  IsAway : ModemState
  -- it is there, and not open
  IsShut : ModemState
  -- the proxy's request to open waits for its answer
  IsOpening : ModemState
  IsReady : ModemState

-- the first argument says whether the modem is away at the opening
unfoldable pub state : Bool → List Fact → ModemState
state away [] = if away then IsAway else IsShut
state away (Forwarded r ∷ past) = if is_own_open r then IsOpening else state away past
state away (OpeningEnded status receivers ∷ past) = if status == SUCCESS then IsReady else IsShut
state away (ModemLost ∷ past) = IsAway
state away (ModemReturned ∷ past) = IsShut
state away (_ ∷ past) = state away past

abbrev pub is_shut : ModemState → Bool
is_shut IsShut = true
is_shut _ = false

abbrev pub is_ready : ModemState → Bool
is_ready IsReady = true
is_ready _ = false
