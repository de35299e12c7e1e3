-- MBIM as a protocol of a proxy: the history that the events of an MBIM proxy make, and the bytes for each client and for the modem.
-- Lists of events and of facts have the newest first.
use Rattle.std.specs.Prelude.{ℕ, List}
use Rattle.mbim_frame.specs.Frame.{size_of}
use Rattle.proxy_history.specs.Events.{Event}
use Rattle.proxy_history.specs.Facts.{Fact}
use Rattle.proxy_history.specs.Rendering.{Rendering}
use Rattle.proxy_history.specs.Protocol.{Protocol}
use Rattle.proxy_history.specs.History as proxy
use Rattle.mbim_proxy.specs.Setup.{Setup}
use Rattle.mbim_proxy.specs.Known.{Known}
use Rattle.mbim_proxy.specs.Text.{mbim_wording}
use Rattle.mbim_proxy.specs.Delivering.{deliver}
use Rattle.mbim_proxy.specs.Forwarding.{wire}
use Rattle.mbim_proxy.specs.Clients.{hear_client}
use Rattle.mbim_proxy.specs.FromModem.{hear_modem, refuse, in_order, close}
use Rattle.mbim_proxy.specs.OwnList.{finish}

abbrev pub mbim_protocol : Setup → Protocol Known
mbim_protocol s = record {
  limits = s.limits;
  starts_away = s.starts_away;
  size = size_of;
  deliver = deliver s.longest_body;
  wire = wire s;
  wording = mbim_wording s;
  hear_client = hear_client s;
  hear_modem = hear_modem s;
  refuse = refuse s;
  order = in_order;
  on_clock = λ past. past;
  close = close;
  finish = finish s;
}

abbrev pub history : Setup → List Event → List Fact
history s events = proxy.history (mbim_protocol s) events

-- the bytes for a client
abbrev pub text_for : Setup → ℕ → List Event → Rendering
text_for s c events = proxy.text_for (mbim_protocol s) c events

-- the bytes for the modem since it was last lost, and those of them that wait
abbrev pub to_modem : Setup → List Event → List ℕ
to_modem s events = proxy.to_modem (mbim_protocol s) events

abbrev pub modem_queue : Setup → List Event → List ℕ
modem_queue s events = proxy.modem_queue (mbim_protocol s) events
