-- What a message of the modem, the clock and a loss add to the history. A list of facts has the newest first.
use Rattle.std.specs.Prelude.{ℕ, Bool, true, false, not, ◌&&◌, ◌==◌, if◌then◌else◌, List, ◌∷◌, ◌++◌, filter, Option, Some, None}
use Rattle.qmux_frame.specs.declared.kind.MessageKind.{MessageKind}
use Rattle.qmux_frame.specs.declared.kind.MessageKind.TheVariants as kind
use Rattle.qmux_frame.specs.Head.{service_of, is_control, cid_of, number_of}
use Rattle.qmux_frame.specs.Kind.{framed_kind}
use Rattle.qmux_frame.specs.Control.{is_allocate, is_release, is_sync}
use Rattle.proxy_history.specs.Facts.{Request, Fact, Answered, IdHeld, Late, Indicated, Stray, Granted, Freed, Reset}
use Rattle.proxy_history.specs.Connections.{present}
use Rattle.proxy_history.specs.Requests.{first_where, in_use, is_pending, of_space}
use Rattle.proxy_history.specs.ClientIds.{held, holder, is_other, is_holder, holds_some}
use Rattle.proxy_history.specs.Unanswered as unanswered
use Rattle.qmi_proxy.specs.Spaces.{control_space, service_space}
use Rattle.qmi_proxy.specs.Messages.{value_of, has_length, byte_of, used_service, used_cid, is_success}
use Rattle.qmi_proxy.specs.OwnReplies.{is_open}
use Rattle.qmi_proxy.specs.Releases.{freed_if}
use Rattle.qmi_proxy.specs.Text.{view_of, note}

-- ---- responses ----

-- the message has the request's service, client id and transaction number
-- The message id isn't compared, as in `build_transaction_key` of libqmi's src/libqmi-glib/qmi-device.c.
abbrev pub is_answered_by : List ℕ → Request → Bool
is_answered_by m r = service_of r.message == service_of m && (cid_of r.message == cid_of m) && (r.number == number_of m)

abbrev pub first_answered_by : List ℕ → List Request → Option Request
first_answered_by m requests = first_where (is_answered_by m) requests

-- what an answer does to the client ids
pub data IdChange : Type 0 where
  NoChange : IdChange
  -- Allocate brought this id of this service
  Grants : (service : ℕ) → (cid : ℕ) → IdChange
  -- Allocate brought an id that another connection holds
  Collides : IdChange
  -- Release gave this one back
  Frees : (service : ℕ) → (cid : ℕ) → IdChange

-- an Allocate's answer brings an id: the service, then the id
abbrev pub brings_id : List ℕ → List ℕ → Bool
brings_id request m =
    is_allocate request && is_success m && has_length 2 (value_of 0x01 m)
    && not (byte_of 0 (value_of 0x01 m) == 0) && not (byte_of 1 (value_of 0x01 m) == 0) && not (byte_of 1 (value_of 0x01 m) == 255)

abbrev pub granted_unless : Bool → ℕ → ℕ → IdChange
granted_unless true service cid = Collides
granted_unless false service cid = Grants service cid

-- what this answer to this request of c does, where its id has this holder
abbrev pub id_change : ℕ → List ℕ → List ℕ → Option ℕ → IdChange
id_change c request m holder =
    if brings_id request m then granted_unless (is_other c holder) (byte_of 0 (value_of 0x01 m)) (byte_of 1 (value_of 0x01 m))
    else if is_release request && is_success m then Frees (used_service request) (used_cid request)
    else NoChange

-- the ids change before the answer is queued: where it finds no room, its connection ends, and its ids with it
abbrev pub answer : List ℕ → Request → List ℕ → IdChange → List Fact → List Fact
answer device r m NoChange past = note device (Answered r m) past
answer device r m (Grants service cid) past = note device (Answered r m) (Granted r.conn service cid ∷ past)
answer device r m Collides past = note device (IdHeld r) past
answer device r m (Frees service cid) past = note device (Answered r m) (Freed r.conn service cid ∷ past)

abbrev pub holder_of_brought : List ℕ → List Fact → Option ℕ
holder_of_brought m past = holder (byte_of 0 (value_of 0x01 m)) (byte_of 1 (value_of 0x01 m)) past

-- the answer to the proxy's own request, whatever it says, and to a client's
abbrev pub answer_to : Bool → List ℕ → Request → List ℕ → List Fact → List Fact
answer_to true device r m past = freed_if true r (note device (Answered r m) past)
answer_to false device r m past = answer device r m (id_change r.conn r.message m (holder_of_brought m past)) past

-- the second argument says whether the request still waits
abbrev pub answer_or_late : List ℕ → Bool → Request → List ℕ → List Fact → List Fact
answer_or_late device true r m past = answer_to (r.conn == 0) device r m past
answer_or_late device false r m past = Late r ∷ past

abbrev pub respond : List ℕ → Option Request → List ℕ → List Fact → List Fact
respond device None m past = Stray ∷ past
respond device (Some r) m past = answer_or_late device (is_pending r past) r m past

-- ---- requests that get no answer ----

-- the order in which they are refused: those of service 0 first, each space in order of forwarding
abbrev pub in_expiry_order : List Request → List Request
in_expiry_order requests = of_space control_space requests ++ of_space service_space requests

-- each gets a refusal in place of its answer
abbrev pub refuse : List ℕ → Fact → Request → List Fact → List Fact
refuse device fact r past = freed_if (r.conn == 0) r (note device fact past)

abbrev pub abort_all : List ℕ → List Fact → List Fact
abort_all device past = unanswered.abort_all (refuse device) in_expiry_order past

abbrev pub lose : List ℕ → List Fact → List Fact
lose device past = unanswered.lose (refuse device) in_expiry_order (λ facts. facts) past

abbrev pub tick : List ℕ → ℕ → List Fact → List Fact
tick device time past = unanswered.tick (refuse device) in_expiry_order time past

-- ---- indications ----

abbrev pub open_ones : List ℕ → List Fact → List ℕ
open_ones device past = filter (λ c. is_open device (view_of c past)) (present past)

-- of service 0 everybody; of client id 255 who holds an id of the service; else the id's holder
abbrev pub receivers : List ℕ → List ℕ → List Fact → List ℕ
receivers device m past =
    if is_control m then open_ones device past
    else if cid_of m == 255 then filter (λ c. holds_some c (service_of m) (held past)) (present past)
    else filter (λ c. is_holder c (holder (service_of m) (cid_of m) past)) (present past)

abbrev pub tell : List ℕ → List ℕ → List Fact → List Fact
tell device m past = note device (Indicated m (receivers device m past)) past

-- a Sync tells that the modem began anew, so what it was asked stays unanswered
-- Who is told is chosen behind that, since a refusal may end a connection.
abbrev pub indicate : List ℕ → List ℕ → List Fact → List Fact
indicate device m past =
    if is_sync m then tell device m (Reset ∷ abort_all device past)
    else if not (is_control m) && cid_of m == 0 then Stray ∷ past
    else tell device m past

-- ---- every message of the modem ----

-- one that isn't framed, and a request, are for nobody
abbrev pub hear_as : Option MessageKind → List ℕ → List ℕ → List Fact → List Fact
hear_as (Some kind.Response) device m past = respond device (first_answered_by m (in_use past)) m past
hear_as (Some kind.Indication) device m past = indicate device m past
hear_as (Some kind.Request) device m past = Stray ∷ past
hear_as None device m past = Stray ∷ past

abbrev pub hear_modem : List ℕ → List ℕ → List Fact → List Fact
hear_modem device m past = hear_as (framed_kind m) device m past
