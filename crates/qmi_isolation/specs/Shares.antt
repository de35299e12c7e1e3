-- A client's share is its view's own: which of its requests wait in a space is read from its view alone.
-- Lists of events, of facts and of entries have the newest first; places have the oldest first.
use Rattle.std.specs.Prelude.{◌≡◌, ℕ, ◌+◌, Bool, true, not, ◌==◌, nat_le, if◌then◌else◌, List, [], ◌∷◌, ◌++◌, length, map, filter}
use Rattle.proxy_history.specs.Events.{Event}
use Rattle.proxy_history.specs.Facts.{Own, Share, Forward}
use Rattle.proxy_history.specs.Decision.{Decision, Replies}
use Rattle.proxy_history.specs.Connections.{is_present}
use Rattle.proxy_history.specs.Requests.{pending, of_client}
use Rattle.proxy_history.specs.View.{Entry, Said, Response, Refused, said_count}
use Rattle.proxy_history.specs.Coming.{AreSound}
use Rattle.qmi_proxy.specs.Setup.{Setup}
use Rattle.qmi_proxy.specs.Spaces.{space_of}
use Rattle.qmi_proxy.specs.Limits.{share_limit}
use Rattle.qmi_proxy.specs.OwnReplies.{is_open, view_decides}
use Rattle.qmi_proxy.specs.Text.{view_of}
use Rattle.qmi_proxy.specs.Clients.{shared_decision, decision_on}
use Rattle.qmi_proxy.specs.History.{qmi_protocol, history}
use Rattle.qmi_isolation.specs.Queues.{facts_before_saying}

abbrev pub without_place : ℕ → List ℕ → List ℕ
without_place place places = filter (λ p. not (place == p)) places

-- the places of the client's messages in a space that were forwarded, and that no answer and no refusal followed
abbrev pub waiting_places : (space : ℕ) → List Entry → List ℕ
waiting_places space [] = []
waiting_places space (Said m Forward ∷ entries) =
    if space_of m == space then waiting_places space entries ++ (said_count entries + 1) ∷ [] else waiting_places space entries
waiting_places space (Response place m ∷ entries) = without_place place (waiting_places space entries)
waiting_places space (Refused place cause ∷ entries) = without_place place (waiting_places space entries)
waiting_places space (_ ∷ entries) = waiting_places space entries

-- as many wait as may, by the view alone
abbrev pub view_has_share : (space : ℕ) → List Entry → Bool
view_has_share space entries = nat_le share_limit (length (waiting_places space entries))

-- the requests of a client that is there which wait are those whose places its view shows, at the end of each event
abbrev pub SharesAreTheViewsOwn : Type 0
SharesAreTheViewsOwn = (s : Setup) (events : List Event) (c space : ℕ)
    → AreSound (qmi_protocol s) events → is_present c (history s events) ≡ true
    → map (λ r. r.place) (of_client c space (pending (history s events))) ≡ waiting_places space (view_of c (history s events))

-- the decision on a message, of which all that comes before what clients share is read from the client's view alone
abbrev pub decision_by_view : Setup → List Entry → Decision → List ℕ → Decision
decision_by_view s entries shared m =
    if view_decides (is_open s.device entries) m then Replies Own
    else if view_has_share (space_of m) entries then Replies Share
    else shared

-- so each message is decided, behind those that came before it in one piece
abbrev pub ViewsDecideFirst : Type 0
ViewsDecideFirst = (s : Setup) (events : List Event) (c : ℕ) (earlier : List (List ℕ)) (m : List ℕ)
    → AreSound (qmi_protocol s) events → is_present c (facts_before_saying s events c earlier) ≡ true
    → decision_on s c m (facts_before_saying s events c earlier)
    ≡ decision_by_view s (view_of c (facts_before_saying s events c earlier)) (shared_decision s c m (facts_before_saying s events c earlier)) m
