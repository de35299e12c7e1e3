-- What a core of the MBIM proxy makes of what it meets.
use Rattle.std.specs.Prelude.{ℕ, suc, zero, ◌-◌, ◌^◌, max, Bool, true, false, not, ◌&&◌, ◌==◌, nat_le, nat_lt, if◌then◌else◌, List, [], ◌∷◌, ◌++◌, length, map, filter, is_some, Option, Some, None}
use Rattle.std.specs.List.{list_any}
use Rattle.kit_bytes.specs.Subscriptions.{Pair, merge}
use Rattle.kit_bytes.specs.Services.{starting_list}
use Rattle.kit_bytes.specs.Indications.{wants}
use Rattle.mbim_frame.specs.Frame.{size_of}
use Rattle.mbim_frame.specs.declared.kind.MessageKind.TheVariants as kind
use Rattle.mbim_frame.specs.declared.status.TheConstants.{SUCCESS, FAILURE}
use Rattle.mbim_frame.specs.Head.{is_kind, number_of}
use Rattle.mbim_frame.specs.Fragment.{body_of}
use Rattle.mbim_frame.specs.Bodies.{uuid_of, cid_of}
use Rattle.outbox.specs.Queue.{Queue, has_room, queues, takes, clears}
use Rattle.connections.specs.Table.{Connection, connection_in}
use Rattle.connections.specs.Table as connections
use Rattle.connections.specs.Hearing.{Hearing}
use Rattle.number_space.specs.declared.space.Row.{Row}
use Rattle.number_space.specs.Table.{pending_of, row_of, next_number, gives_number, answers, first_due, orphans, resets}
use Rattle.proxy_history.specs.Events.{Event}
use Rattle.proxy_history.specs.Facts.{Verdict, Own, Share, Forward, Waits}
use Rattle.proxy_history.specs.Connections.{without}
use Rattle.proxy_history.specs.Decision.{Decision, Replies, Forwards, forwards_under}
use Rattle.proxy_history.specs.Requests.{deadline_of}
use Rattle.proxy_history.specs.View.{Entry, Said, Indication, OpenedWith, Shut}
use Rattle.proxy_state.specs.State.{Handlers}
use Rattle.proxy_state.specs.Step as proxy
use Rattle.proxy_state.specs.Chosen.{names_in}
use Rattle.mbim_proxy.specs.Setup.{Setup}
use Rattle.mbim_services.specs.SubscribeLists.{is_same_list}
use Rattle.mbim_proxy.specs.Known.{fresh}
use Rattle.mbim_proxy.specs.OwnReplies.{view_decides}
use Rattle.mbim_proxy.specs.Step as view
use Rattle.mbim_proxy.specs.Text.{text_as, response_text, refusal_text}
use Rattle.mbim_proxy.specs.ModemStates.{IsAway, IsShut, IsOpening, IsReady, is_ready}
use Rattle.mbim_proxy.specs.Forwarding.{own_open, own_subscribe, wire_of}
use Rattle.mbim_proxy.specs.Clients.{command_message, opening_decision}
use Rattle.mbim_proxy.specs.FromModem.{Heard, IsDone, IsOpenDone, IsIndication, IsNeither, heard_as, opening_status}
use Rattle.mbim_proxy.specs.Delivering.{none_begun, heard_with, begun_after}
use Rattle.mbim_state.specs.Asked.{Asked, CommandName, asked_of, is_opening, ask_by}
use Rattle.mbim_state.specs.declared.asked.Asked.TheVariants as asked
use Rattle.mbim_state.specs.Core.{Client, client_of, known_by, Numbers, ModemSide, MbimState, MbimCore, silences}
use Rattle.proxy_state.specs.Telling as telling

abbrev pub with_side : ModemSide → MbimState → MbimState
with_side side x = record x { beside = side }

abbrev pub with_numbers : Numbers → MbimState → MbimState
with_numbers numbers x = record x { beside = record x.beside { numbers = numbers } }

-- a connection is gone
abbrev pub give_up : ℕ → ModemSide → ModemSide
give_up c side = record side { numbers = orphans c side.numbers; askers = without c side.askers }

-- the client asked to open the modem and has to wait; there is room for all clients that may be there
abbrev pub asked_last : (room : ℕ) → (conn : ℕ) → List ℕ → List ℕ
asked_last room c askers = let others : List ℕ = without c askers in if nat_lt (length others) room then others ++ c ∷ [] else others

abbrev pub asked_with : Setup → (conn : ℕ) → Verdict → List ℕ → List ℕ
asked_with s c Waits askers = asked_last s.limits.connections c askers
asked_with s c _ askers = askers

-- ---- what the modem is asked ----

-- the number under which a message can be queued: the next one, where one is free and there is room for it
abbrev pub number_at : Setup → (message : List ℕ) → ModemSide → Option ℕ
number_at s m side = if has_room (wire_of s 0 m) side.outbox then next_number side.numbers else None

abbrev pub forwards : Setup → (conn : ℕ) → (message : List ℕ) → (number : ℕ) → ModemSide → ModemSide
forwards s c m number side = record side {
  numbers = gives_number (Some number) c (asked_of m) (deadline_of side.time s.time_limit) side.numbers;
  outbox = record side.outbox { bytes = side.outbox.bytes ++ wire_of s number m };
}

-- the proxy itself opens the modem
abbrev pub opens : Setup → (number : ℕ) → ModemSide → ModemSide
opens s number side = record (forwards s 0 (own_open s) number side) { modem = IsOpening }

-- ---- a message of a client ----

-- the decision is the first that fits: what the client alone decides, then the modem's state for a request to open, and a number and room for a command
abbrev pub decision_of : Setup → Client → (message : List ℕ) → ModemSide → Decision
decision_of s client m side =
    if view_decides s (known_by client) m then Replies Own
    else if is_kind kind.Open m then opening_decision side.modem (number_at s (own_open s) side)
    else forwards_under (number_at s (command_message s (known_by client) m) side)

-- a command for the modem, of a client of which as many wait as may
abbrev pub passes_share : Setup → (conn : ℕ) → Client → (message : List ℕ) → ModemSide → Bool
passes_share s c client m side = not (view_decides s (known_by client) m) && not (is_kind kind.Open m) && nat_le s.limits.share (pending_of c side.numbers)

abbrev pub decision_for : Setup → (conn : ℕ) → Client → (message : List ℕ) → ModemSide → Decision
decision_for s c client m side = if passes_share s c client m side then Replies Share else decision_of s client m side

-- what an entry of its view makes of a client, and the bytes that it gets with it
abbrev pub after : Setup → Entry → Client → Client
after s entry client = client_of (view.step s (known_by client) entry)

abbrev pub text : Setup → Entry → Client → List ℕ
text s entry client = text_as s (known_by client) entry

abbrev pub replies : Setup → (conn : ℕ) → (message : List ℕ) → Verdict → Client → Queue → ModemSide → Hearing Client ModemSide
replies s c m verdict client outbox side = record {
  client = after s (Said m verdict) client;
  outbox = queues (text s (Said m verdict) client) outbox;
  beside = record side { askers = asked_with s c verdict side.askers };
  has_room = has_room (text s (Said m verdict) client) outbox;
}

-- what is forwarded queues nothing for the client; a request to open waits for the proxy's own
abbrev pub asks_modem : (opens_it : Bool) → Setup → (conn : ℕ) → (message : List ℕ) → (number : ℕ) → Client → Queue → ModemSide → Hearing Client ModemSide
asks_modem true s c m number client outbox side = record {
  client = after s (Said m Waits) client;
  outbox = outbox;
  beside = record (opens s number side) { askers = asked_with s c Waits side.askers };
  has_room = true;
}
asks_modem false s c m number client outbox side = record {
  client = after s (Said m Forward) client;
  outbox = outbox;
  beside = forwards s c (command_message s (known_by client) m) number side;
  has_room = true;
}

abbrev pub act_on : Setup → (conn : ℕ) → (message : List ℕ) → Decision → Client → Queue → ModemSide → Hearing Client ModemSide
act_on s c m (Replies verdict) client outbox side = replies s c m verdict client outbox side
act_on s c m (Forwards number) client outbox side = asks_modem (is_kind kind.Open m) s c m number client outbox side

abbrev pub hear_client : Setup → (conn : ℕ) → (message : List ℕ) → Client → Queue → ModemSide → Hearing Client ModemSide
hear_client s c m client outbox side = act_on s c m (decision_for s c client m side) client outbox side

-- ---- bytes for clients ----

-- a client gets the bytes of an entry of its view, or is dropped where they find no room
abbrev pub tell : Setup → Entry → ℕ → MbimState → MbimState
tell s entry c x = telling.tell give_up (text s entry) (after s entry) c x

abbrev pub tell_each : Setup → Entry → List ℕ → MbimState → MbimState
tell_each s entry cs x = telling.tell_each give_up (text s entry) (after s entry) cs x

-- the answer to its command, with its own number, or the refusal in its place; neither changes what is kept of it
abbrev pub tell_answer : CommandName → (message : List ℕ) → ℕ → MbimState → MbimState
tell_answer name m c x = telling.tell give_up (λ client. response_text (known_by client) (ask_by name) m) (λ client. client) c x

abbrev pub tell_refusal : CommandName → ℕ → MbimState → MbimState
tell_refusal name c x = telling.tell give_up (λ client. refusal_text (known_by client) (ask_by name)) (λ client. client) c x

-- ---- the opening ends ----

-- a modem that opens has the starting list
abbrev pub opening_ended : (status : ℕ) → ModemSide → ModemSide
opening_ended status side = record side {
  modem = if status == SUCCESS then IsReady else IsShut;
  last_list = if status == SUCCESS then starting_list else side.last_list;
}

-- the request of the client of a connection to open waits
abbrev pub is_waiting : Option (Connection Client) → Bool
is_waiting None = false
is_waiting (Some k) = is_some k.client.waits

-- those of the clients whose requests to open wait
abbrev pub waiting_of : List (Connection Client) → (names : List ℕ) → List ℕ
waiting_of present names = filter (λ c. is_waiting (connection_in c present)) names

-- all that wait for it are answered, in the order in which they asked
abbrev pub ends_opening : Setup → (status : ℕ) → MbimState → MbimState
ends_opening s status x = tell_each s (OpenedWith status) (waiting_of x.table.present x.beside.askers) (with_side (opening_ended status x.beside) x)

-- ---- a message of the modem ----

abbrev pub is_for : Heard → Asked → Bool
is_for IsDone note = not (is_opening note)
is_for IsOpenDone note = is_opening note
is_for _ note = true

abbrev pub answer : Setup → Asked → (conn : ℕ) → (message : List ℕ) → MbimState → MbimState
answer s asked.Open c m x = ends_opening s (opening_status m) x
answer s (asked.Command name) c m x = tell_answer name m c x

-- a late answer is for nobody
abbrev pub answer_if : (pending : Bool) → Setup → Asked → (conn : ℕ) → (message : List ℕ) → MbimState → MbimState
answer_if true s note c m x = answer s note c m x
answer_if false s note c m x = x

-- an answer frees the number, late or not
abbrev pub respond_if : Bool → Setup → Row Asked → (message : List ℕ) → MbimState → MbimState
respond_if true s row m x = answer_if row.pending s row.note row.conn m (with_numbers (answers row.number x.beside.numbers) x)
respond_if false s row m x = x

abbrev pub respond_to : Option (Row Asked) → Setup → Heard → (message : List ℕ) → MbimState → MbimState
respond_to None s heard m x = x
respond_to (Some row) s heard m x = respond_if (is_for heard row.note) s row m x

abbrev pub respond : Setup → Heard → (message : List ℕ) → MbimState → MbimState
respond s heard m x = respond_to (row_of (number_of m) x.beside.numbers.rows) s heard m x

-- the clients that are open
abbrev pub open_ones : List (Connection Client) → List (Connection Client)
open_ones present = filter (λ (k : Connection Client). k.client.opened) present

-- those of them that want the indication, in order of joining
abbrev pub receivers_in : (uuid : List ℕ) → (cid : ℕ) → List (Connection Client) → List ℕ
receivers_in uuid cid present = names_in (filter (λ (k : Connection Client). wants k.client.list uuid cid) (open_ones present))

abbrev pub indicate : Setup → (message : List ℕ) → MbimState → MbimState
indicate s m x = tell_each s (Indication (view.blank m)) (receivers_in (uuid_of (body_of m)) (cid_of (body_of m)) x.table.present) x

abbrev pub hear_as : Setup → Heard → (message : List ℕ) → MbimState → MbimState
hear_as s IsNeither m x = x
hear_as s IsIndication m x = indicate s m x
hear_as s heard m x = respond s heard m x

unfoldable pub hear_each : Setup → (messages : List (List ℕ)) → MbimState → MbimState
hear_each s [] x = x
hear_each s (m ∷ messages) x = hear_each s messages (hear_as s (heard_as m) m x)

-- what is heard with it, where it comes in fragments: nothing until the last of them
abbrev pub hear_modem : Setup → (message : List ℕ) → MbimState → MbimState
hear_modem s m x = hear_each s (heard_with s.longest_body x.beside.begun m) (with_side (record x.beside { begun = begun_after s.longest_body x.beside.begun m }) x)

-- ---- requests that get no answer ----

abbrev pub refuse_as : Setup → Asked → (conn : ℕ) → MbimState → MbimState
refuse_as s asked.Open c x = ends_opening s FAILURE x
refuse_as s (asked.Command name) c x = tell_refusal name c x

-- the number stays in use
abbrev pub refuse : Setup → Row Asked → MbimState → MbimState
refuse s row x = refuse_as s row.note row.conn (with_numbers (silences row.number x.beside.numbers) x)

-- those whose time has come, each where it still waits when its turn comes, at most so many
unfoldable pub expire_in : ℕ → Setup → (time : ℕ) → MbimState → MbimState
expire_in zero s time x = x
expire_in (suc count) s time x = elim (first_due time x.beside.numbers.rows) [ None ↦ x | Some row ↦ expire_in count s time (refuse s row x) ]

abbrev pub expire : Setup → (time : ℕ) → MbimState → MbimState
expire s time x = expire_in (length x.beside.numbers.rows) s time x

-- whatever their time
abbrev pub abort : Setup → MbimState → MbimState
abort s x = expire s (2 ^ 64 - 1) x

-- ---- the modem and the clock ----

abbrev pub lost : ModemSide → ModemSide
lost side = record side { away = true; modem = IsAway; numbers = resets side.numbers; begun = none_begun; outbox = clears side.outbox }

-- no client is open any more
abbrev pub shut_all : Setup → List (Connection Client) → List (Connection Client)
shut_all s present = map (λ (k : Connection Client). connections.with_client (after s Shut k.client) k) present

-- it is lost, and away from here on
abbrev pub lose : Setup → MbimState → MbimState
lose s x =
    let left = abort s x in
    record { table = record left.table { present = shut_all s left.table.present }; beside = lost left.beside }

abbrev pub regain : ModemSide → ModemSide
regain side = record side { away = false; modem = IsShut }

abbrev pub take_modem : ℕ → ModemSide → ModemSide
take_modem count side = record side { outbox = takes count side.outbox }

-- time never goes back
abbrev pub tick : Setup → ℕ → MbimState → MbimState
tick s time x = expire s (max time x.beside.time) (with_side (record x.beside { time = max time x.beside.time }) x)

-- ---- the end of each event ----

-- all that the open clients subscribe to
abbrev pub merged_in : List (Connection Client) → List Pair
merged_in present = merge (map (λ (k : Connection Client). k.client.list) (open_ones present))

-- the modem is open, and no request of the proxy itself waits
abbrev pub is_free : ModemSide → Bool
is_free side = is_ready side.modem && not (list_any (λ (r : Row Asked). r.pending && (r.conn == 0)) side.numbers.rows)

-- the number under which the modem is asked for a list: none where it was last asked for that one
abbrev pub number_of_list : Setup → List Pair → ModemSide → Option ℕ
number_of_list s list side = if is_free side && not (is_same_list list side.last_list) then number_at s (own_subscribe list) side else None

abbrev pub send_under : Setup → List Pair → Option ℕ → ModemSide → ModemSide
send_under s list None side = side
send_under s list (Some number) side = record (forwards s 0 (own_subscribe list) number side) { last_list = list }

abbrev pub send_list : Setup → List Pair → ModemSide → ModemSide
send_list s list side = send_under s list (number_of_list s list side) side

-- the proxy's own list
abbrev pub finish : Setup → MbimState → MbimState
finish s x = with_side (send_list s (merged_in x.table.present) x.beside) x

-- ---- each event ----

abbrev pub mbim_handlers : Setup → Handlers Client ModemSide
mbim_handlers s = record {
  time = λ side. side.time;
  away = λ side. side.away;
  modem_queue = λ side. side.outbox.bytes;
  fresh = client_of (fresh s);
  hear_client = hear_client s;
  give_up = give_up;
  hear_modem = hear_modem s;
  lose = lose s;
  regain = regain;
  take_modem = take_modem;
  tick = tick s;
  finish = finish s;
}

abbrev pub step : Setup → Event → MbimCore → MbimCore
step s event core = proxy.step (mbim_handlers s) size_of event core
