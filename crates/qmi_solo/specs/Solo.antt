-- What a client of the QMI proxy would meet if it were alone with the modem: what the modem says to it, and each Sync.
-- `past` is the history of all just before an item, and `own` the client's history so far; lists of facts have the newest first.
use Rattle.std.specs.Prelude.{ℕ, Bool, not, ◌&&◌, ◌||◌, ◌==◌, if◌then◌else◌, List, [], ◌∷◌, Option, Some, None}
use Rattle.qmux_frame.specs.declared.kind.MessageKind.{MessageKind}
use Rattle.qmux_frame.specs.declared.kind.MessageKind.TheVariants as kind
use Rattle.qmux_frame.specs.Head.{is_control, cid_of}
use Rattle.qmux_frame.specs.Kind.{framed_kind}
use Rattle.qmux_frame.specs.Control.{is_sync}
use Rattle.qmux_frame.specs.Reply.{with_number}
use Rattle.proxy_history.specs.Events.{Event}
use Rattle.proxy_history.specs.Items.{Item, ModemSays}
use Rattle.proxy_history.specs.Facts.{Fact}
use Rattle.proxy_history.specs.Connections.{contains}
use Rattle.proxy_history.specs.Requests.{in_use}
use Rattle.proxy_solo.specs.Alone.{Alone}
use Rattle.proxy_solo.specs.Answers.{answer_alone}
use Rattle.proxy_solo.specs.Solo as alone
use Rattle.qmi_proxy.specs.Setup.{Setup}
use Rattle.qmi_proxy.specs.FromModem.{first_answered_by, receivers}
use Rattle.qmi_proxy.specs.History.{qmi_protocol}

-- ---- what the client hears of a message of the modem: the answers to its requests, late or not, what it is told, and each Sync ----

-- an indication of another service than 0 that names no client id is for nobody
abbrev pub names_nobody : List ℕ → Bool
names_nobody m = not (is_control m) && cid_of m == 0

-- each Sync indication is for it, and each other one that it gets beside the others
abbrev pub is_told : Setup → ℕ → List ℕ → List Fact → Bool
is_told s c m past = is_sync m || (not (names_nobody m) && contains c (receivers s.device m past))

-- by the kind of the message; a request, and what isn't framed, are for nobody
abbrev pub heard_alone : Option MessageKind → Setup → ℕ → List ℕ → List Fact → List Fact → Option (List ℕ)
heard_alone (Some kind.Response) s c m past own = answer_alone with_number c (first_answered_by m (in_use past)) m (in_use own)
heard_alone (Some kind.Indication) s c m past own = if is_told s c m past then Some m else None
heard_alone (Some kind.Request) s c m past own = None
heard_alone None s c m past own = None

abbrev pub hears : Setup → ℕ → Item → List Fact → List Fact → Option (List ℕ)
hears s c (ModemSays m) past own = heard_alone (framed_kind m) s c m past own
hears s c _ past own = None

-- ---- what QMI brings to being alone ----

-- a client's piece comes as it is, and the proxy itself asks nothing
abbrev pub qmi_alone : Setup → Alone
qmi_alone s = record {
  parts = λ before piece. piece ∷ [];
  hears = hears s;
  answers = λ own. None;
  restated = λ fact. fact ∷ [];
}

-- what the client would meet alone, of all these events
abbrev pub solo : Setup → ℕ → List Event → List Event
solo s c events = alone.solo (qmi_protocol s) (qmi_alone s) c events
