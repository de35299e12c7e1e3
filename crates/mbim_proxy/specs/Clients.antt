-- What a client's message adds to the history. A list of facts has the newest first.
-- The decision is the first that fits, here with the reply that it comes to:
--   what the client's own view decides (OwnReplies)
--   a request to open   modem away OPEN_DONE 2, open OPEN_DONE 0, opening: it waits;
--                       not open: it waits for the proxy's own request to open, and where no number or no room is there OPEN_DONE 1
--   a command           where as many of the client's wait as may COMMAND_DONE 13, where no number or no room is there COMMAND_DONE 1, else forwarded
use Rattle.std.specs.Prelude.{ℕ, ◌+◌, Bool, true, false, not, ◌&&◌, List, ◌∷◌, Option, if◌then◌else◌}
use Rattle.mbim_frame.specs.declared.kind.MessageKind.TheVariants as kind
use Rattle.mbim_frame.specs.Kinds.{kind_number}
use Rattle.mbim_frame.specs.Head.{is_kind, number_of}
use Rattle.mbim_frame.specs.Writing.{unsplit}
use Rattle.proxy_history.specs.Facts.{Own, Share, Away, Forward, Ready, Waits, Fact, Judged}
use Rattle.proxy_history.specs.Decision.{Decision, Replies, Forwards, forwards_under}
use Rattle.proxy_history.specs.Connections.{message_count}
use Rattle.proxy_history.specs.Requests.{has_share}
use Rattle.mbim_proxy.specs.Setup.{Setup, the_space}
use Rattle.mbim_proxy.specs.Known.{Known}
use Rattle.mbim_proxy.specs.OwnReplies.{view_decides}
use Rattle.mbim_proxy.specs.Step.{command_with}
use Rattle.mbim_proxy.specs.Text.{note}
use Rattle.mbim_proxy.specs.ModemStates.{ModemState, IsAway, IsShut, IsOpening, IsReady, state}
use Rattle.mbim_proxy.specs.Forwarding.{own_open, number_for, forward}

-- the command that the message completes, in one message with the client's own number
abbrev pub command_message : Setup → Known → (message : List ℕ) → List ℕ
command_message s known m = unsplit (kind_number kind.Command) (number_of m) (command_with s known m)

-- ---- the decision ----

-- on a request to open, from the modem's state, and from the number under which the proxy's own request can be queued
abbrev pub opening_decision : ModemState → Option ℕ → Decision
opening_decision IsAway number = Replies Away
opening_decision IsReady number = Replies Ready
opening_decision IsOpening number = Replies Waits
opening_decision IsShut number = forwards_under number

abbrev pub shared_decision : Setup → Known → (message : List ℕ) → List Fact → Decision
shared_decision s known m past =
    if is_kind kind.Open m then opening_decision (state s.starts_away past) (number_for s (own_open s) past)
    else forwards_under (number_for s (command_message s known m) past)

-- the client's own view comes first
abbrev pub decision_on : Setup → Known → (message : List ℕ) → List Fact → Decision
decision_on s known m past = if view_decides s known m then Replies Own else shared_decision s known m past

-- a command that would go to the modem, of a client of which as many wait as may
abbrev pub passes_share : Setup → Known → (conn : ℕ) → (message : List ℕ) → List Fact → Bool
passes_share s known c m past = not (view_decides s known m) && not (is_kind kind.Open m) && has_share s.limits.share c the_space past

-- a client's share comes before what all share
abbrev pub decision_for : Setup → Known → (conn : ℕ) → (message : List ℕ) → List Fact → Decision
decision_for s known c m past = if passes_share s known c m past then Replies Share else decision_on s known m past

-- ---- what follows from it ----

-- a request to open waits for the proxy's own, and a command goes to the modem itself
abbrev pub forward_for : (opens : Bool) → Setup → Known → (conn : ℕ) → (message : List ℕ) → (number : ℕ) → List Fact → List Fact
forward_for true s known c m number past = forward s 0 (own_open s) number (Judged c (message_count c past + 1) m Waits ∷ past)
forward_for false s known c m number past = forward s c (command_message s known m) number (Judged c (message_count c past + 1) m Forward ∷ past)

-- the message with its verdict; what is forwarded queues nothing for the client
abbrev pub judge : Setup → Known → (conn : ℕ) → (message : List ℕ) → Decision → List Fact → List Fact
judge s known c m (Replies verdict) past = note s (Judged c (message_count c past + 1) m verdict) past
judge s known c m (Forwards number) past = forward_for (is_kind kind.Open m) s known c m number past

abbrev pub hear_client : Setup → Known → (conn : ℕ) → (message : List ℕ) → List Fact → List Fact
hear_client s known c m past = judge s known c m (decision_for s known c m past) past
