-- The bytes for one client of a QMI proxy: those of each entry of its view, which has the newest first.
-- They are made from the view and the device's path alone.
use Rattle.std.specs.Prelude.{ℕ, Bool, false, List, []}
use Rattle.qmux_frame.specs.Head.{number_of}
use Rattle.qmux_frame.specs.Reply.{with_number, result_reply}
use Rattle.proxy_history.specs.Facts.{Own, Share, Foreign, Away, Full, Forward, Ready, Waits, Fact}
use Rattle.proxy_history.specs.View.{Entry, Said, Response, Refused, Indication, OpenedWith, Shut, Taking, End, HeldId, NoAnswer, view, said_at}
use Rattle.proxy_history.specs.Noting as noting
use Rattle.proxy_history.specs.Rendering.{Rendering, EntryText}
use Rattle.proxy_history.specs.Wording.{Wording, text_behind}
use Rattle.qmi_proxy.specs.Limits.{qmi_limits}
use Rattle.qmi_proxy.specs.Errors.{share_passed, internal, aborted, client_ids_exhausted, invalid_client_id, device_in_use}
use Rattle.qmi_proxy.specs.OwnReplies.{own_error, step}

-- the bytes of an entry that follows these entries, from whether they opened the device; no message asks to open the modem
abbrev pub text_as : List ℕ → Bool → List Entry → Entry → List ℕ
text_as device opened entries (Said m Own) = result_reply m (own_error device opened m)
text_as device opened entries (Said m Share) = result_reply m share_passed
text_as device opened entries (Said m Foreign) = result_reply m invalid_client_id
text_as device opened entries (Said m Away) = result_reply m internal
text_as device opened entries (Said m Full) = result_reply m device_in_use
text_as device opened entries (Said m Forward) = []
text_as device opened entries (Said m Ready) = []
text_as device opened entries (Said m Waits) = []
text_as device opened entries (Response place m) = with_number (number_of (said_at place entries)) m
text_as device opened entries (Refused place HeldId) = result_reply (said_at place entries) client_ids_exhausted
text_as device opened entries (Refused place NoAnswer) = result_reply (said_at place entries) aborted
text_as device opened entries (Indication m) = m
text_as device opened entries (OpenedWith status) = []
text_as device opened entries Shut = []
text_as device opened entries (Taking count) = []
text_as device opened entries (End why) = []

-- a message without its transaction number
abbrev pub blank : List ℕ → List ℕ
blank m = with_number 0 m

abbrev pub qmi_wording : List ℕ → Wording Bool
qmi_wording device = record {
  blank = blank;
  fresh = false;
  step = step device;
  text = text_as device;
}

abbrev pub text : List ℕ → EntryText
text device = text_behind (qmi_wording device)

abbrev pub view_of : ℕ → List Fact → List Entry
view_of c past = view blank c past

abbrev pub rendering : List ℕ → ℕ → List Fact → Rendering
rendering device c past = noting.rendering qmi_limits (qmi_wording device) c past

-- a fact, and the ends of the connections that have no room for what it brings them
abbrev pub note : List ℕ → Fact → List Fact → List Fact
note device fact past = noting.note qmi_limits (qmi_wording device) fact past
