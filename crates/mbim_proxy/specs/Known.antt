-- What a client's own view tells of it: no other client has a say in this.
use Rattle.std.specs.Prelude.{ℕ, Bool, false, not, ◌==◌, List, [], ◌∷◌, filter, Option, Some, None, if◌then◌else◌}
use Rattle.kit_bytes.specs.Subscriptions.{Pair}
use Rattle.kit_bytes.specs.Services.{starting_list}
use Rattle.mbim_fragments.specs.Assembling.{Assembled}
use Rattle.mbim_fragments.specs.Assembling as assembling
use Rattle.mbim_proxy.specs.Setup.{Setup}

-- a command of the client that the modem may still answer
pub record Ask : Type 0 where
  -- which of its messages completed it
  pub place : ℕ
  -- the client's own number
  pub number : ℕ
  pub uuid : List ℕ
  pub cid : ℕ

pub record Known : Type 0 where
  -- how many messages it sent
  pub sent : ℕ
  -- what has come of its command of which more fragments are due
  pub begun : Assembled
  -- it named the device
  pub configured : Bool
  pub opened : Bool
  -- the number of its request to open that waits for the modem
  pub waits : Option ℕ
  -- how many bytes the fragments have that it is served with
  pub fragment : ℕ
  -- what it subscribes to
  pub list : List Pair
  pub asks : List Ask

-- of a client that joined
abbrev pub fresh : Setup → Known
fresh s = record {
  sent = 0;
  begun = assembling.fresh;
  configured = false;
  opened = false;
  waits = None;
  fragment = s.longest_fragment;
  list = starting_list;
  asks = [];
}

-- ---- its commands ----

abbrev pub no_ask : Ask
no_ask = record { place = 0; number = 0; uuid = []; cid = 0 }

abbrev pub ask_at : (place : ℕ) → List Ask → Ask
ask_at place [] = no_ask
ask_at place (ask ∷ asks) = if ask.place == place then ask else ask_at place asks

abbrev pub without_ask : (place : ℕ) → List Ask → List Ask
without_ask place asks = filter (λ ask. not (ask.place == place)) asks

-- the number of the request to open that waits
abbrev pub waiting_number : Option ℕ → ℕ
waiting_number None = 0
waiting_number (Some number) = number
