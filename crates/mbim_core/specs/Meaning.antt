-- What MBIM means for a core. A list of facts has the newest first.
use Rattle.std.specs.Prelude.{◌≡◌, ℕ, Bool, true, false, List, length, map, if◌then◌else◌}
use Rattle.hub_io.specs.declared.settings.Limits.{Limits}
use Rattle.subscriptions.specs.Clients.{Client as Subscriber, merged}
use Rattle.mbim_services.specs.SubscribeLists.{is_same_list}
use Rattle.mbim_proxy.specs.Setup.{Setup, mbim_setup}
use Rattle.mbim_proxy.specs.Known.{Known}
use Rattle.mbim_proxy.specs.Forwarding.{own_subscribe, wire_of}
use Rattle.mbim_proxy.specs.Proxy as proxy
use Rattle.mbim_proxy.specs.History.{mbim_protocol}
use Rattle.mbim_state.specs.Core.{Client, ModemSide, MbimState, kept_of, setup_of}
use Rattle.mbim_state.specs.Transitions.{merged_in, mbim_handlers}
use Rattle.mbim_state.proofs.Regular.{Regular}
use Rattle.proxy_core.specs.Meaning.{Named, Meaning}

-- ---- what it has at hand ----

pub record AtHand : Type 0 where
  -- what each client subscribes to, in order of joining
  pub subscribed : List Subscriber
  -- the modem was last asked for all that the open ones subscribe to
  pub asked : Bool

abbrev pub subscriber : Named Client → Subscriber
subscriber k = record { conn = k.name; shown = k.client.opened; list = k.client.list }

pub record IsAtHand (clients : List (Named Client)) (side : ModemSide) (hand : AtHand) : Type 0 where
  pub subscribed : hand.subscribed ≡ map subscriber clients
  pub asked : hand.asked ≡ true → merged hand.subscribed ≡ side.last_list

-- ---- what lasts ----

pub record Lasting : Type 0 where
  pub device : List ℕ
  -- for how many milliseconds a request waits for its answer
  pub time_limit : ℕ

abbrev pub lasting_of : Setup → Lasting
lasting_of s = record { device = s.device; time_limit = s.time_limit }

abbrev pub setup_by : Lasting → Setup
setup_by l = mbim_setup l.device l.time_limit false

-- how many bytes more the proxy may ask the modem by itself while the modem only takes
abbrev pub own_bytes : MbimState → ℕ
own_bytes x = if is_same_list (merged_in x.table.present) x.beside.last_list then 0 else length (wire_of (setup_of x.beside) 0 (own_subscribe (merged_in x.table.present)))

-- the modem is there at the opening; `device` has the characters of the device's path
abbrev pub opening_setup : Limits → (device : List ℕ) → Setup
opening_setup limits device = mbim_setup device limits.time false

abbrev pub mbim_meaning : Meaning Client ModemSide AtHand
mbim_meaning = record {
  Lasting = Lasting;
  lasting = λ side. lasting_of (setup_of side);
  handlers = λ l. mbim_handlers (setup_by l);
  agrees = IsAtHand;
  Setup = Setup;
  Known = Known;
  protocol = mbim_protocol;
  kept = kept_of;
  fine = Regular;
  serves = λ s l. s ≡ setup_by l;
  own_bytes = own_bytes;
  own_bytes_by = proxy.own_bytes;
  opening = opening_setup;
}
