-- What the proxy queues for the modem. A list of facts has the newest first.
-- A request's message is a client's command in one message, with the client's own number; the proxy's own requests have number 0.
use Rattle.std.specs.Prelude.{ℕ, ◌+◌, Bool, true, nat_le, List, ◌∷◌, length, Option, None, if◌then◌else◌}
use Rattle.kit_bytes.specs.declared.services.TheConstants.{BASIC_CONNECT}
use Rattle.kit_bytes.specs.Subscriptions.{Pair}
use Rattle.mbim_frame.specs.declared.kind.MessageKind.TheVariants.{Open, Command}
use Rattle.mbim_frame.specs.Kinds.{kind_number}
use Rattle.mbim_frame.specs.Head.{is_kind, with_number}
use Rattle.mbim_frame.specs.Fragment.{body_of}
use Rattle.mbim_frame.specs.Bodies.{command_text}
use Rattle.mbim_frame.specs.Writing.{open_request, unsplit}
use Rattle.mbim_fragments.specs.Splitting.{split}
use Rattle.proxy_history.specs.Facts.{Request, Fact, Forwarded}
use Rattle.proxy_history.specs.Connections.{message_count}
use Rattle.proxy_history.specs.Requests.{forward_count, next_number, deadline_of}
use Rattle.proxy_history.specs.Modem.{now, modem_queue}
use Rattle.mbim_proxy.specs.Services.{subscribe_list_cid}
use Rattle.mbim_services.specs.SubscribeLists.{list_buffer}
use Rattle.mbim_proxy.specs.Setup.{Setup, the_space}

-- ---- the proxy's own requests ----

abbrev pub own_open : Setup → List ℕ
own_open s = open_request 0 s.longest_fragment

abbrev pub own_subscribe : List Pair → List ℕ
own_subscribe list = unsplit (kind_number Command) 0 (command_text (record { uuid = BASIC_CONNECT; cid = subscribe_list_cid; set = true }) (list_buffer list))

-- ---- bytes ----

-- a request's message as the modem sees it: with this number, and a command in fragments
abbrev pub wire_of : Setup → (number : ℕ) → (message : List ℕ) → List ℕ
wire_of s number m = if is_kind Open m then with_number number m else split (kind_number Command) number s.longest_fragment (body_of m)

abbrev pub wire : Setup → Request → List ℕ
wire s r = wire_of s r.number r.message

-- ---- numbers and room ----

abbrev pub has_room : Setup → (message : List ℕ) → List Fact → Bool
has_room s m past = nat_le (length (modem_queue (wire s) past) + length (wire_of s 0 m)) s.limits.modem_outbox

-- the number under which it can be queued: the next one, where one is free and there is room for it
abbrev pub number_for : Setup → (message : List ℕ) → List Fact → Option ℕ
number_for s m past = if has_room s m past then next_number (s.limits.in_use the_space) (s.limits.top the_space) the_space past else None

-- ---- forwarding ----

abbrev pub request_of : Setup → (conn : ℕ) → (message : List ℕ) → (number : ℕ) → List Fact → Request
request_of s c m number past = record {
  serial = forward_count past + 1;
  conn = c;
  place = message_count c past;
  space = the_space;
  number = number;
  message = m;
  deadline = deadline_of (now past) s.time_limit;
}

-- under this number
abbrev pub forward : Setup → (conn : ℕ) → (message : List ℕ) → (number : ℕ) → List Fact → List Fact
forward s c m number past = Forwarded (request_of s c m number past) ∷ past
