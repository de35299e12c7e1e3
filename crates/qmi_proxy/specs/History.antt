-- QMI as a protocol of a proxy: the history that the events of a QMI proxy make, and the bytes for each client and for the modem.
-- Lists of events and of facts have the newest first.
use Rattle.std.specs.Prelude.{ℕ, Bool, List}
use Rattle.qmux_frame.specs.Frame.{size_of}
use Rattle.proxy_history.specs.Events.{Event}
use Rattle.proxy_history.specs.Items.{Item}
use Rattle.proxy_history.specs.Items as items
use Rattle.proxy_history.specs.Facts.{Fact}
use Rattle.proxy_history.specs.Rendering.{Rendering}
use Rattle.proxy_history.specs.Protocol.{Protocol}
use Rattle.proxy_history.specs.History as proxy
use Rattle.qmi_proxy.specs.Setup.{Setup}
use Rattle.qmi_proxy.specs.Limits.{qmi_limits}
use Rattle.qmi_proxy.specs.Text.{qmi_wording}
use Rattle.qmi_proxy.specs.Clients.{hear_client_as, wire}
use Rattle.qmi_proxy.specs.Releases.{release_due}
use Rattle.qmi_proxy.specs.FromModem.{hear_modem, refuse, in_expiry_order}

-- what a client's view tells is whether it has opened the device; no message comes in fragments
abbrev pub qmi_protocol : Setup → Protocol Bool
qmi_protocol s = record {
  limits = qmi_limits;
  starts_away = s.starts_away;
  size = size_of;
  deliver = λ messages. messages;
  wire = wire;
  wording = qmi_wording s.device;
  hear_client = hear_client_as s;
  hear_modem = hear_modem s.device;
  refuse = refuse s.device;
  order = in_expiry_order;
  on_clock = λ past. release_due s s.release past;
  close = λ past. past;
  finish = λ past. past;
}

abbrev pub add : Setup → Item → List Fact → List Fact
add s item past = proxy.add (qmi_protocol s) item past

abbrev pub add_all : Setup → List Item → List Fact → List Fact
add_all s items past = proxy.add_all (qmi_protocol s) items past

abbrev pub items_of : Setup → List Event → Event → List Item
items_of s events event = items.items_of (qmi_protocol s) events event

abbrev pub history : Setup → List Event → List Fact
history s events = proxy.history (qmi_protocol s) events

-- the bytes for a client
abbrev pub text_for : Setup → ℕ → List Event → Rendering
text_for s c events = proxy.text_for (qmi_protocol s) c events

-- the bytes for the modem since it was last lost
abbrev pub to_modem : Setup → List Event → List ℕ
to_modem s events = proxy.to_modem (qmi_protocol s) events
