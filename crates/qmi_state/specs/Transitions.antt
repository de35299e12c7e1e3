-- What a core of the QMI proxy makes of what it meets.
use Rattle.std.specs.Prelude.{ℕ, suc, zero, ◌-◌, ◌^◌, max, Bool, true, false, not, ◌&&◌, ◌==◌, nat_le, if◌then◌else◌, List, [], length, drop, filter, Option, Some, None}
use Rattle.outbox.specs.Queue.{Queue, has_room as finds_room, queues}
use Rattle.connections.specs.Table.{Connection}
use Rattle.connections.specs.Hearing.{Hearing}
use Rattle.qmux_frame.specs.Frame.{size_of}
use Rattle.qmux_frame.specs.declared.kind.MessageKind.{MessageKind}
use Rattle.qmux_frame.specs.declared.kind.MessageKind.TheVariants as kind
use Rattle.qmux_frame.specs.Head.{is_control, service_of, cid_of, number_of}
use Rattle.qmux_frame.specs.Kind.{framed_kind}
use Rattle.qmux_frame.specs.Control.{is_release, is_sync}
use Rattle.qmux_frame.specs.Reply.{result_reply, with_number}
use Rattle.proxy_history.specs.Events.{Event}
use Rattle.proxy_history.specs.Facts.{Verdict, Own, Share, Foreign, Away, Full}
use Rattle.proxy_history.specs.Decision.{Decision, Replies, Forwards}
use Rattle.proxy_history.specs.View.{Said}
use Rattle.proxy_history.specs.ClientIds.{Grant, KeptId, holder_in, is_other, holds_some}
use Rattle.proxy_state.specs.State.{Handlers}
use Rattle.proxy_state.specs.Step as proxy
use Rattle.proxy_state.specs.Telling as telling
pub use Rattle.proxy_state.specs.Chosen.{names_in}
use Rattle.qmi_proxy.specs.Errors.{share_passed, internal, aborted, client_ids_exhausted, invalid_client_id, device_in_use}
use Rattle.qmi_proxy.specs.Limits.{share_limit}
use Rattle.qmi_proxy.specs.Messages.{uses_id, used_service, used_cid, value_of, byte_of, is_success}
use Rattle.qmi_proxy.specs.OwnReplies.{view_decides}
use Rattle.qmi_proxy.specs.OwnReplies as own
use Rattle.qmi_proxy.specs.Text.{text_as}
use Rattle.qmi_proxy.specs.Clients.{shared_decision_of, has_room, deadline_of}
use Rattle.qmi_proxy.specs.Releases as release
use Rattle.qmi_proxy.specs.FromModem.{IdChange, NoChange, Grants, Collides, Frees, brings_id, granted_unless}
use Rattle.qmi_state.specs.Asked.{Asked}
use Rattle.number_space.specs.Table.{first_due, pending_of}
use Rattle.qmi_state.specs.declared.client.Client.{Client}
use Rattle.qmi_state.specs.Traffic.{Row, Traffic, of_control, with_numbers, row_numbered, frees, silences, number_at, forwards, grants_id, frees_id, gives_up, forgets, number_for_own, asks_release}
use Rattle.qmi_state.specs.Core.{ModemSide, QmiState, QmiCore}

abbrev pub with_traffic : Traffic → QmiState → QmiState
with_traffic traffic x = record x { beside = record x.beside { traffic = traffic } }

-- ---- bytes for a client ----

-- a connection is gone, and its client ids are kept from now on
abbrev pub give_up : ℕ → ModemSide → ModemSide
give_up c side = record side { traffic = gives_up c side.time side.traffic }

-- c gets these bytes, or is dropped where they find no room
abbrev pub tell : ℕ → List ℕ → QmiState → QmiState
tell c bytes x = telling.tell give_up (λ client. bytes) (λ client. client) c x

abbrev pub tell_all : List ℕ → List ℕ → QmiState → QmiState
tell_all bytes cs x = telling.tell_each give_up (λ client. bytes) (λ client. client) cs x

-- ---- a message of a client ----

-- the bytes of the reply, which looks at no earlier entry
abbrev pub reply_as : List ℕ → Bool → List ℕ → Verdict → List ℕ
reply_as device opened m verdict = text_as device opened [] (Said m verdict)

abbrev pub holder_at : List ℕ → Traffic → Option ℕ
holder_at m traffic = if uses_id m then holder_in (used_service m) (used_cid m) traffic.held else None

-- as many requests of c wait in the message's space as may
abbrev pub share_of : ℕ → List ℕ → Traffic → Bool
share_of c m traffic = nat_le share_limit (pending_of c (of_control (is_control m) traffic))

-- the decision, where the client's own view doesn't make it
abbrev pub shared_of : Bool → ℕ → List ℕ → Traffic → Decision
shared_of away c m traffic =
    if share_of c m traffic then Replies Share
    else shared_decision_of c (holder_at m traffic) away (has_room (length traffic.waiting) m) (number_at m traffic)

abbrev pub decision_of : Bool → ℕ → List ℕ → Bool → Traffic → Decision
decision_of away c m opened traffic = if view_decides opened m then Replies Own else shared_of away c m traffic

-- the error of the refusal that such a decision comes with
abbrev pub refusal_of : Decision → Option ℕ
refusal_of (Replies Share) = Some share_passed
refusal_of (Replies Foreign) = Some invalid_client_id
refusal_of (Replies Away) = Some internal
refusal_of (Replies Full) = Some device_in_use
refusal_of _ = None

abbrev pub forwards_as : Decision → ℕ → ℕ → List ℕ → Traffic → Traffic
forwards_as (Replies verdict) deadline c m traffic = traffic
forwards_as (Forwards number) deadline c m traffic = forwards deadline c m number traffic

-- a reply; where it finds room, the client has opened the device or hasn't
abbrev pub replied : List ℕ → (opened : Bool) → Client → Queue → ModemSide → Hearing Client ModemSide
replied bytes opened client outbox side = record {
  client = record { opened = if finds_room bytes outbox then opened else client.opened };
  outbox = queues bytes outbox;
  beside = side;
  has_room = finds_room bytes outbox;
}

abbrev pub act_on : ℕ → List ℕ → Decision → Client → Queue → ModemSide → Hearing Client ModemSide
act_on name m (Forwards number) client outbox side = record {
  client = client;
  outbox = outbox;
  beside = record side { traffic = forwards (deadline_of side.time side.time_limit) name m number side.traffic };
  has_room = true;
}
act_on name m (Replies verdict) client outbox side = replied (reply_as side.device client.opened m verdict) (own.step side.device client.opened (Said m verdict)) client outbox side

abbrev pub hear_client : ℕ → List ℕ → Client → Queue → ModemSide → Hearing Client ModemSide
hear_client name m client outbox side = act_on name m (decision_of side.away name m client.opened side.traffic) client outbox side

-- ---- requests that get no answer ----

-- nobody holds the id of an own request that ended
abbrev pub frees_own : Row → QmiState → QmiState
frees_own row x = with_traffic (frees_id 0 row.note.service row.note.cid x.beside.traffic) x

-- the first argument says whether the proxy itself asked
abbrev pub refuses_sender : Bool → Row → QmiState → QmiState
refuses_sender true row x = frees_own row x
refuses_sender false row x = tell row.conn (result_reply row.note.head aborted) x

-- the sender of a request is refused, and its number stays in use
abbrev pub refuses : Bool → Row → QmiState → QmiState
refuses control row x =
    refuses_sender (row.conn == 0) row
    (with_traffic (with_numbers control (silences row.number (of_control control x.beside.traffic)) x.beside.traffic) x)

-- those of a space whose time has come, each where it still waits when its turn comes, at most so many
unfoldable pub expires_in : ℕ → Bool → ℕ → QmiState → QmiState
expires_in zero control time x = x
expires_in (suc count) control time x =
    elim (first_due time (of_control control x.beside.traffic).rows) [ None ↦ x | Some row ↦ expires_in count control time (refuses control row x) ]

abbrev pub expires_space : Bool → ℕ → QmiState → QmiState
expires_space control time x = expires_in (length (of_control control x.beside.traffic).rows) control time x

-- first those of service 0
abbrev pub expires : ℕ → QmiState → QmiState
expires time x = expires_space false time (expires_space true time x)

-- whatever their time
abbrev pub aborts : QmiState → QmiState
aborts x = expires (2 ^ 64 - 1) x

-- ---- a message of the modem ----

-- what an answer does to the client ids, from what is kept of its request
abbrev pub change_by : ℕ → Asked → List ℕ → Option ℕ → IdChange
change_by c note m holder =
    if brings_id note.head m then granted_unless (is_other c holder) (byte_of 0 (value_of 0x01 m)) (byte_of 1 (value_of 0x01 m))
    else if is_release note.head && is_success m then Frees note.service note.cid
    else NoChange

abbrev pub holder_brought : List ℕ → Traffic → Option ℕ
holder_brought m traffic = holder_in (byte_of 0 (value_of 0x01 m)) (byte_of 1 (value_of 0x01 m)) traffic.held

-- the response under the sender's own number, or a refusal in its place
abbrev pub answers : Row → List ℕ → IdChange → QmiState → QmiState
answers row m NoChange x = tell row.conn (with_number (number_of row.note.head) m) x
answers row m (Grants service cid) x = tell row.conn (with_number (number_of row.note.head) m) (with_traffic (grants_id row.conn service cid x.beside.traffic) x)
answers row m Collides x = tell row.conn (result_reply row.note.head client_ids_exhausted) x
answers row m (Frees service cid) x = tell row.conn (with_number (number_of row.note.head) m) (with_traffic (frees_id row.conn service cid x.beside.traffic) x)

-- the first argument says whether the proxy itself asked: then nobody is told, whatever the answer says
abbrev pub answers_sender : Bool → Row → List ℕ → QmiState → QmiState
answers_sender true row m x = frees_own row x
answers_sender false row m x = answers row m (change_by row.conn row.note m (holder_brought m x.beside.traffic)) x

-- a late answer is for nobody
abbrev pub answers_if : Bool → Row → List ℕ → QmiState → QmiState
answers_if true row m x = answers_sender (row.conn == 0) row m x
answers_if false row m x = x

abbrev pub fits : List ℕ → Row → Bool
fits m row = service_of row.note.head == service_of m && (cid_of row.note.head == cid_of m)

-- an answer frees the number, late or not
abbrev pub responds_if : Bool → Row → List ℕ → QmiState → QmiState
responds_if true row m x =
    answers_if row.pending row m (with_traffic (with_numbers (is_control m) (frees row.number (of_control (is_control m) x.beside.traffic)) x.beside.traffic) x)
responds_if false row m x = x

abbrev pub responds_to : Option Row → List ℕ → QmiState → QmiState
responds_to None m x = x
responds_to (Some row) m x = responds_if (fits m row) row m x

abbrev pub responds : List ℕ → QmiState → QmiState
responds m x = responds_to (row_numbered (number_of m) (of_control (is_control m) x.beside.traffic).rows) m x

-- those that have opened the device, and those that hold an id of the service
abbrev pub opened_ones : List (Connection Client) → List ℕ
opened_ones present = names_in (filter (λ (l : Connection Client). l.client.opened) present)

abbrev pub holders_of : ℕ → List Grant → List (Connection Client) → List ℕ
holders_of service held present = filter (λ c. holds_some c service held) (names_in present)

abbrev pub tells_holder : Option ℕ → List ℕ → QmiState → QmiState
tells_holder None m x = x
tells_holder (Some c) m x = tell c m x

-- an indication: of service 0 for each client that is open; of client id 255 for each that holds an id of the service; else for the id's holder
abbrev pub indicates : List ℕ → QmiState → QmiState
indicates m x =
    if is_control m then tell_all m (opened_ones x.table.present) x
    else if cid_of m == 255 then tell_all m (holders_of (service_of m) x.beside.traffic.held x.table.present) x
    else tells_holder (holder_in (service_of m) (cid_of m) x.beside.traffic.held) m x

abbrev pub forgets_all : QmiState → QmiState
forgets_all x = with_traffic (forgets x.beside.traffic) x

-- a Sync comes behind the refusal of all that waits
abbrev pub hears_indication : List ℕ → QmiState → QmiState
hears_indication m x =
    if is_sync m then indicates m (forgets_all (aborts x))
    else if not (is_control m) && cid_of m == 0 then x
    else indicates m x

abbrev pub hears_as : Option MessageKind → List ℕ → QmiState → QmiState
hears_as (Some kind.Response) m x = responds m x
hears_as (Some kind.Indication) m x = hears_indication m x
hears_as (Some kind.Request) m x = x
hears_as None m x = x

abbrev pub hears_modem : List ℕ → QmiState → QmiState
hears_modem m x = hears_as (framed_kind m) m x

-- ---- the modem and the clock ----

-- it is lost, and away from here on
abbrev pub lose : QmiState → QmiState
lose x =
    let after = aborts x in
    record after { beside = record after.beside { traffic = record (forgets after.beside.traffic) { waiting = [] }; away = true } }

abbrev pub regain : ModemSide → ModemSide
regain side = record side { away = false }

abbrev pub take_modem : ℕ → ModemSide → ModemSide
take_modem count side = record side { traffic = record side.traffic { waiting = drop count side.traffic.waiting } }

-- the proxy's own Release of this id goes to the modem under this number
abbrev pub releases_one : KeptId → ℕ → QmiState → QmiState
releases_one k number x = with_traffic (asks_release (deadline_of x.beside.time x.beside.time_limit) k number x.beside.traffic) x

-- the ids that are kept for so long, one after the other, up to the first for which no number or no room is there, and at most so many
unfoldable pub releases_in : (after : ℕ) → ℕ → QmiState → QmiState
releases_in after zero x = x
releases_in after (suc count) x =
    elim (release.first_due after x.beside.time x.beside.traffic.kept) [
      | None ↦ x
      | Some k ↦ elim (number_for_own k x.beside.traffic) [ None ↦ x | Some number ↦ releases_in after count (releases_one k number x) ]
    ]

abbrev pub releases_due : Option ℕ → QmiState → QmiState
releases_due None x = x
releases_due (Some after) x = releases_in after (length x.beside.traffic.kept) x

abbrev pub shows : ℕ → QmiState → QmiState
shows time x = expires (max time x.beside.time) (record x { beside = record x.beside { time = max time x.beside.time } })

-- requests whose time is over are refused, and then ids are released that are due
abbrev pub tick : ℕ → QmiState → QmiState
tick time x = releases_due x.beside.release (shows time x)

-- ---- each event ----

-- QMI's core asks the modem nothing by itself but when the clock shows a time
abbrev pub qmi_handlers : Handlers Client ModemSide
qmi_handlers = record {
  time = λ side. side.time;
  away = λ side. side.away;
  modem_queue = λ side. side.traffic.waiting;
  fresh = record { opened = false };
  hear_client = hear_client;
  give_up = give_up;
  hear_modem = hears_modem;
  lose = lose;
  regain = regain;
  take_modem = take_modem;
  tick = tick;
  finish = λ x. x;
}

abbrev pub step : Event → QmiCore → QmiCore
step event core = proxy.step qmi_handlers size_of event core
