-- A client's share is its view's own: how many of its commands wait is read from its view alone.
-- Lists of events and of facts have the newest first.
use Rattle.std.specs.Prelude.{◌≡◌, ℕ, Bool, true, not, ◌&&◌, nat_le, if◌then◌else◌, List, length}
use Rattle.mbim_frame.specs.declared.kind.MessageKind.TheVariants.{Open}
use Rattle.mbim_frame.specs.Head.{is_kind}
use Rattle.proxy_history.specs.Events.{Event}
use Rattle.proxy_history.specs.Facts.{Own, Share}
use Rattle.proxy_history.specs.Decision.{Decision, Replies}
use Rattle.proxy_history.specs.Connections.{is_present}
use Rattle.proxy_history.specs.Requests.{has_share}
use Rattle.proxy_history.specs.Coming.{AreSound}
use Rattle.mbim_proxy.specs.Setup.{Setup, the_space}
use Rattle.mbim_proxy.specs.Known.{Known}
use Rattle.mbim_proxy.specs.OwnReplies.{view_decides}
use Rattle.mbim_proxy.specs.Step.{known_now}
use Rattle.mbim_proxy.specs.Clients.{shared_decision, decision_for}
use Rattle.mbim_proxy.specs.History.{mbim_protocol, history}
use Rattle.mbim_isolation.specs.Queues.{facts_before_saying}

-- as many of its commands wait as may, by the view alone: those that were forwarded, and that no answer and no refusal followed
abbrev pub view_has_share : Setup → Known → Bool
view_has_share s known = nat_le s.limits.share (length known.asks)

-- for a client that is there, at the end of each event
abbrev pub SharesAreTheViewsOwn : Type 0
SharesAreTheViewsOwn = (s : Setup) (events : List Event) (c : ℕ)
    → AreSound (mbim_protocol s) events → is_present c (history s events) ≡ true
    → has_share s.limits.share c the_space (history s events) ≡ view_has_share s (known_now s c (history s events))

-- the decision on a message, of which all that comes before what clients share is read from the client's view alone; a request to open has no share
abbrev pub decision_by_view : Setup → Known → Decision → List ℕ → Decision
decision_by_view s known shared m =
    if view_decides s known m then Replies Own
    else if not (is_kind Open m) && view_has_share s known then Replies Share
    else shared

-- so each message is decided, behind those that came before it in one piece
abbrev pub ViewsDecideFirst : Type 0
ViewsDecideFirst = (s : Setup) (events : List Event) (c : ℕ) (earlier : List (List ℕ)) (m : List ℕ)
    → AreSound (mbim_protocol s) events → is_present c (facts_before_saying s events c earlier) ≡ true
    → decision_for s (known_now s c (facts_before_saying s events c earlier)) c m (facts_before_saying s events c earlier)
    ≡ decision_by_view s (known_now s c (facts_before_saying s events c earlier)) (shared_decision s (known_now s c (facts_before_saying s events c earlier)) m (facts_before_saying s events c earlier)) m
