-- What each decision of a QMI proxy comes with. A list of facts has the newest first.
use Rattle.std.specs.Prelude.{◌≡◌, ◌≢◌, ◌↔◌, ℕ, true, List, length, Some}
use Rattle.proxy_history.specs.Facts.{Fact, Own, Forward}
use Rattle.proxy_history.specs.Decision.{Replies, Forwards}
use Rattle.proxy_history.specs.Modem.{modem_queue}
use Rattle.qmi_proxy.specs.Setup.{Setup}
use Rattle.qmi_proxy.specs.OwnReplies.{is_open, view_decides}
use Rattle.qmi_proxy.specs.Text.{view_of}
use Rattle.qmi_proxy.specs.Clients.{number_for, wire, has_room, decision_on}

-- a reply of the client's own view comes exactly where that view decides
abbrev pub OwnRepliesAreOfTheView : Type 0
OwnRepliesAreOfTheView = (s : Setup) (c : ℕ) (m : List ℕ) (past : List Fact)
    → decision_on s c m past ≡ Replies Own ↔ view_decides (is_open s.device (view_of c past)) m ≡ true

-- what is forwarded goes under the next number, and there is room for it
abbrev pub ForwardedHaveTheNextNumber : Type 0
ForwardedHaveTheNextNumber = (s : Setup) (c number : ℕ) (m : List ℕ) (past : List Fact)
    → decision_on s c m past ≡ Forwards number
    → (number_for m past ≡ Some number) × (has_room (length (modem_queue wire past)) m ≡ true)

-- and nothing goes without a number
abbrev pub NoReplyIsForwarded : Type 0
NoReplyIsForwarded = (s : Setup) (c : ℕ) (m : List ℕ) (past : List Fact) → decision_on s c m past ≢ Replies Forward
