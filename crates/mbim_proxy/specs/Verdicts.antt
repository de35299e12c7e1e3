-- What each decision of an MBIM proxy comes with. A list of facts has the newest first.
use Rattle.std.specs.Prelude.{◌≡◌, ◌≢◌, ◌↔◌, ℕ, true, List, Some, if◌then◌else◌}
use Rattle.mbim_frame.specs.declared.kind.MessageKind.TheVariants as kind
use Rattle.mbim_frame.specs.Head.{is_kind}
use Rattle.proxy_history.specs.Facts.{Fact, Own, Share, Forward}
use Rattle.proxy_history.specs.Decision.{Replies, Forwards}
use Rattle.mbim_proxy.specs.Setup.{Setup}
use Rattle.mbim_proxy.specs.Known.{Known}
use Rattle.mbim_proxy.specs.OwnReplies.{view_decides}
use Rattle.mbim_proxy.specs.Forwarding.{own_open, number_for}
use Rattle.mbim_proxy.specs.Clients.{command_message, passes_share, decision_for}

-- a reply of the client's own view comes exactly where that view decides
abbrev pub OwnRepliesAreOfTheView : Type 0
OwnRepliesAreOfTheView = (s : Setup) (known : Known) (c : ℕ) (m : List ℕ) (past : List Fact) → decision_for s known c m past ≡ Replies Own ↔ view_decides s known m ≡ true

-- the refusal for its share comes exactly for a command that would go to the modem, of a client of which as many wait as may
abbrev pub SharesArePassed : Type 0
SharesArePassed = (s : Setup) (known : Known) (c : ℕ) (m : List ℕ) (past : List Fact) → decision_for s known c m past ≡ Replies Share ↔ passes_share s known c m past ≡ true

-- what is forwarded goes under the number with which it can be queued: the command, or the proxy's own request to open in place of the client's
abbrev pub ForwardedHaveTheNextNumber : Type 0
ForwardedHaveTheNextNumber = (s : Setup) (known : Known) (c : ℕ) (m : List ℕ) (number : ℕ) (past : List Fact)
    → decision_for s known c m past ≡ Forwards number
    → number_for s (if is_kind kind.Open m then own_open s else command_message s known m) past ≡ Some number

-- and nothing goes without a number
abbrev pub NoReplyIsForwarded : Type 0
NoReplyIsForwarded = (s : Setup) (known : Known) (c : ℕ) (m : List ℕ) (past : List Fact) → decision_for s known c m past ≢ Replies Forward
