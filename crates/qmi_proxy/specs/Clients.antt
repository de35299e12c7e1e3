-- What a client's message adds to the history. A list of facts has the newest first.
-- The decision is the first that fits, here with the error of its reply:
--   from the client's own view (OwnReplies)   malformed 1, Proxy Open of the device 0, of another one 3,
--                                             before a Proxy Open 3, Sync 0, bad client id 7,
--                                             16 requests of the client wait in the space 2
--   from what all clients share               client id of another connection 7, modem away 3,
--                                             no number or no room 23, else forwarded
use Rattle.std.specs.Prelude.{ℕ, ◌+◌, Bool, true, false, not, nat_le, if◌then◌else◌, List, ◌∷◌, length, Option, None}
use Rattle.qmux_frame.specs.Reply.{with_number}
use Rattle.proxy_history.specs.Facts.{Own, Share, Foreign, Away, Full, Forward, Request, Fact, Judged, Forwarded, Granted}
use Rattle.proxy_history.specs.Decision.{Decision, Replies, Forwards, forwards_under}
use Rattle.proxy_history.specs.Connections.{message_count}
use Rattle.proxy_history.specs.Requests.{forward_count, next_number, has_share}
pub use Rattle.proxy_history.specs.Requests.{deadline_of}
use Rattle.proxy_history.specs.ClientIds.{holder, is_other}
use Rattle.proxy_history.specs.Modem.{now, is_away, modem_queue}
use Rattle.qmi_proxy.specs.Setup.{Setup}
use Rattle.qmi_proxy.specs.Spaces.{space_of, limit_of, top_of}
use Rattle.qmi_proxy.specs.Limits.{modem_outbox_limit, share_limit}
use Rattle.qmi_proxy.specs.Messages.{uses_id, used_service, used_cid}
use Rattle.qmi_proxy.specs.OwnReplies.{is_open, view_decides}
use Rattle.qmi_proxy.specs.Text.{view_of, note}

-- ---- what the history tells of the message ----

-- the transaction number that it would get
abbrev pub number_for : List ℕ → List Fact → Option ℕ
number_for m past = next_number (limit_of (space_of m)) (top_of (space_of m)) (space_of m) past

-- the connection that holds the client id that it uses
abbrev pub holder_for : List ℕ → List Fact → Option ℕ
holder_for m past = if uses_id m then holder (used_service m) (used_cid m) past else None

-- a request's bytes as the modem sees them: with the proxy's number
abbrev pub wire : Request → List ℕ
wire r = with_number r.number r.message

abbrev pub has_room : ℕ → List ℕ → Bool
has_room waiting m = nat_le (waiting + length m) modem_outbox_limit

-- ---- the decision ----

-- from what is shared: who holds the id, whether the modem is away, whether there is room, and the free number
abbrev pub shared_decision_of : ℕ → Option ℕ → (away room : Bool) → Option ℕ → Decision
shared_decision_of c holder away room number =
    if is_other c holder then Replies Foreign
    else if away then Replies Away
    else if not room then Replies Full
    else forwards_under number

abbrev pub shared_decision : Setup → ℕ → List ℕ → List Fact → Decision
shared_decision s c m past =
    shared_decision_of c (holder_for m past) (is_away s.starts_away past) (has_room (length (modem_queue wire past)) m)
    (number_for m past)

-- the client's own view comes first, which tells whether the client has opened the device
abbrev pub decision_as : Setup → Bool → ℕ → List ℕ → List Fact → Decision
decision_as s opened c m past =
    if view_decides opened m then Replies Own
    else if has_share share_limit c (space_of m) past then Replies Share
    else shared_decision s c m past

abbrev pub decision_on : Setup → ℕ → List ℕ → List Fact → Decision
decision_on s c m past = decision_as s (is_open s.device (view_of c past)) c m past

-- ---- what follows from it ----

abbrev pub request_of : Setup → ℕ → List ℕ → ℕ → List Fact → Request
request_of s c m number past = record {
  serial = forward_count past + 1;
  conn = c;
  place = message_count c past;
  space = space_of m;
  number = number;
  message = m;
  deadline = deadline_of (now past) s.time_limit;
}

-- a client that uses an id is its holder from then on: an id that nobody held is adopted
abbrev pub grant_if : Bool → ℕ → List ℕ → List Fact → List Fact
grant_if true c m past = Granted c (used_service m) (used_cid m) ∷ past
grant_if false c m past = past

-- the message goes to the modem under this number
abbrev pub forward : Setup → ℕ → List ℕ → ℕ → List Fact → List Fact
forward s c m number past = grant_if (uses_id m) c m (Forwarded (request_of s c m number past) ∷ past)

-- the message with its verdict; what is forwarded queues nothing for the client
abbrev pub judge : Setup → ℕ → List ℕ → Decision → List Fact → List Fact
judge s c m (Replies verdict) past = note s.device (Judged c (message_count c past + 1) m verdict) past
judge s c m (Forwards number) past = forward s c m number (Judged c (message_count c past + 1) m Forward ∷ past)

abbrev pub hear_client_as : Setup → Bool → ℕ → List ℕ → List Fact → List Fact
hear_client_as s opened c m past = judge s c m (decision_as s opened c m past) past

abbrev pub hear_client : Setup → ℕ → List ℕ → List Fact → List Fact
hear_client s c m past = hear_client_as s (is_open s.device (view_of c past)) c m past
