-- The messages of a session's requests, as a proxy and a modem read them.
use Rattle.std.proofs.Common.{◌≡◌, ℕ, ◌+◌, ◌≤◌, Bool, true, false, ◌||◌, ◌==◌, ◌%◌, ◌/◌, if◌then◌else◌, List, [], ◌∷◌, length, Option, Some, None, refl, ap, ◌∙◌, arith, lit≤, length-append}
use Rattle.std.specs.Prelude.{bytes_eq, option_and_then, ◌^◌}
use Rattle.std.proofs.lemmas.Bool.{eq-eqb}
use Rattle.framing.specs.Framing.{IsMessage}
use Rattle.qmux_frame.specs.declared.head.Head.{Head}
use Rattle.qmux_frame.specs.declared.writing.NewMessage.{NewMessage}
use Rattle.qmux_frame.specs.declared.kind.MessageKind.TheVariants as kind
use Rattle.qmux_frame.specs.Frame.{size_of}
use Rattle.qmux_frame.specs.Head.{service_of, cid_of, number_of, flags_of, message_id_of, is_framed, tlvs_in}
use Rattle.qmux_frame.specs.Kind.{framed_kind, kind_of, kind_by}
use Rattle.qmux_frame.specs.Reply.{with_number}
use Rattle.qmux_frame.specs.Writing.{message_text, head_text, inner_head}
use Rattle.qmux_frame.proofs.Written.{written_is_read}
use Rattle.tlv_codec.specs.Tlv.{tlv_text, tlvs_of, first_value}
use Rattle.tlv_codec.proofs.Texts.{tlvs_of-text}
use Rattle.qmi_requests.specs.declared.QmiRequest.{QmiRequest}
use Rattle.qmi_services.specs.Requests.{row_of, inputs_of}
use Rattle.device_core.specs.Requests.{Request, new_message, message_of}
use Rattle.qmi_proxy.specs.Messages.{is_malformed, opens, value_of}
use Rattle.qmi_proxy.specs.OwnReplies.{view_decides, own_error}
use Rattle.twin_sessions.specs.QmiServing.{of_control}

-- ---- a message under another number ----

module _ (m : NewMessage) (tlvs : List ℕ) where
  pub with_number_is : (n : ℕ) → with_number n (message_text m tlvs) ≡ message_text (record m { number = n }) tlvs
  unfolding head_text
  with_number_is n =
      let step : (b : Bool) → (m.service == 0) ≡ b → with_number n (message_text m tlvs) ≡ message_text (record m { number = n }) tlvs =
      λ b. elim b as (λ b. (m.service == 0) ≡ b → with_number n (message_text m tlvs) ≡ message_text (record m { number = n }) tlvs) [
        | true ↦ λ is. rw is refl
        | false ↦ λ is. rw is refl
      ]
      in step (m.service == 0) refl

-- ---- what a client that has opened the device may have forwarded ----

-- of another service than 0
pub service_shared : (m : List ℕ) → is_framed m ≡ true → flags_of m ≡ 0 → (service_of m == 0) ≡ false → (cid_of m == 0) ≡ false → (cid_of m == 255) ≡ false → view_decides true m ≡ false
service_shared m framed flags service low high = rw (framed, flags, service, low, high) (rw service refl)

any_true : (x a b : Bool) → (a || b) ≡ true → (x || a || b) ≡ true
any_true true a b is = refl
any_true false a b is = is

service_refused_by : (device m : List ℕ) (a b : Bool) → is_framed m ≡ true → flags_of m ≡ 0 → (service_of m == 0) ≡ false → (cid_of m == 0) ≡ a → (cid_of m == 255) ≡ b → (a || b) ≡ true → (view_decides true m ≡ true) × (own_error device true m ≡ 7)
service_refused_by device m a b framed flags service low high bad = (rw (framed, flags, service, low, high) (any_true (service_of m == 0) a b bad), rw (framed, flags, service) refl)

pub service_refused : (device m : List ℕ) → is_framed m ≡ true → flags_of m ≡ 0 → (service_of m == 0) ≡ false → (cid_of m == 0 || (cid_of m == 255)) ≡ true → (view_decides true m ≡ true) × (own_error device true m ≡ 7)
service_refused device m framed flags service bad = service_refused_by device m (cid_of m == 0) (cid_of m == 255) framed flags service refl refl bad

-- ---- the messages of a session ----

pub text_is : (r : Request) → message_of r ≡ message_text (new_message r) (tlv_text (inputs_of r.body))
unfolding message_of
text_is r = refl

pub record IsRead (r : Request) : Type 0 where
  pub is_message : IsMessage size_of (message_of r)
  pub framed : is_framed (message_of r) ≡ true
  pub service : service_of (message_of r) ≡ (row_of r.body).service
  pub cid : cid_of (message_of r) ≡ r.cid
  pub flags : flags_of (message_of r) ≡ 0
  pub number : number_of (message_of r) ≡ r.number
  pub id : message_id_of (message_of r) ≡ (row_of r.body).id
  pub tlvs : tlvs_in (message_of r) ≡ tlv_text (inputs_of r.body)
  pub kind_is : framed_kind (message_of r) ≡ Some kind.Request
  pub renumbered : (n : ℕ) → with_number n (message_of r) ≡ message_of (record r { number = n })

no_bits : (service : ℕ) → kind_by service 0 ≡ kind.Request
no_bits service = elim (service == 0) as (λ b. (if (0 / 2 ^ (if b then 0 else 1) % 2 == 1) then kind.Response else if (0 / 2 ^ (if b then 1 else 2) % 2 == 1) then kind.Indication else kind.Request) ≡ kind.Request) [ true ↦ refl | false ↦ refl ]

pub is_read : (r : Request) → IsRead r
unfolding message_of
is_read r =
    let m : List ℕ = message_of r in
    let read = written_is_read (new_message r) (tlv_text (inputs_of r.body)) in
    let framed : is_framed m ≡ true = ap (λ (h : Head). h.framed) read.head in
    let flags : flags_of m ≡ 0 = ap (λ (h : Head). h.flags) read.head in
    record {
      is_message = read.whole;
      framed = framed;
      service = ap (λ (h : Head). h.service) read.head;
      cid = ap (λ (h : Head). h.cid) read.head;
      flags = flags;
      number = ap (λ (h : Head). h.number) read.head;
      id = ap (λ (h : Head). h.message) read.head;
      tlvs = read.behind;
      kind_is = ap (λ (b : Bool). if b then Some (kind_of m) else None) framed ∙ ap (λ (n : ℕ). Some (kind_by (service_of m) n)) flags ∙ ap Some (no_bits (service_of m));
      renumbered = λ n. with_number_is (new_message r) (tlv_text (inputs_of r.body)) n;
    }

-- how long they are
inner_is_short : (m : NewMessage) (count : ℕ) → length (inner_head m count) ≤ 7
inner_is_short m count = elim (m.service == 0) as (λ b. length (if b then m.flags ∷ m.number ∷ m.message % 256 ∷ m.message / 256 ∷ count % 256 ∷ count / 256 ∷ [] else m.flags ∷ m.number % 256 ∷ m.number / 256 ∷ m.message % 256 ∷ m.message / 256 ∷ count % 256 ∷ count / 256 ∷ []) ≤ 7) [ true ↦ lit≤ tt | false ↦ lit≤ tt ]

pub head_is_short : (m : NewMessage) (count : ℕ) → length (head_text m count) ≤ 13
unfolding head_text
head_is_short m count = omega (arith, inner_is_short m count)

pub text_is_short : (m : NewMessage) (tlvs : List ℕ) → length (message_text m tlvs) ≤ length tlvs + 13
text_is_short m tlvs = omega (arith, head_is_short m (length tlvs), length-append (head_text m (length tlvs)) tlvs)

-- ---- the requests to service 0 ----

value_is : (r : Request) (kind : ℕ) → value_of kind (message_of r) ≡ first_value kind (inputs_of r.body)
value_is r kind = ap (λ (l : List ℕ). option_and_then (first_value kind) (tlvs_of l)) (is_read r).tlvs ∙ ap (option_and_then (first_value kind)) (tlvs_of-text (inputs_of r.body))

-- what is read of a message of service 0 with this id and this value of TLV 0x01
pub record OfControl (m : List ℕ) (id : ℕ) (value : Option (List ℕ)) : Type 0 where
  pub framed : is_framed m ≡ true
  pub flags : flags_of m ≡ 0
  pub cid : cid_of m ≡ 0
  pub service : service_of m ≡ 0
  pub id_is : message_id_of m ≡ id
  pub value_is : value_of 1 m ≡ value

pub control_is : (body : QmiRequest) (number : ℕ) → (row_of body).service ≡ 0 → OfControl (message_of (of_control body number)) (row_of body).id (first_value 1 (inputs_of body))
control_is body number none =
    let r : Request = of_control body number in
    let is = is_read r in
    record { framed = is.framed; flags = is.flags; cid = is.cid; service = is.service ∙ none; id_is = is.id; value_is = value_is r 1 }

pub version_shared : (m : List ℕ) → OfControl m 0x21 None → view_decides true m ≡ false
version_shared m is = rw (is.framed, is.id_is, is.flags, is.cid, is.service) refl

pub allocate_shared : (m : List ℕ) (service : ℕ) → OfControl m 0x22 (Some (service ∷ [])) → view_decides true m ≡ false
allocate_shared m service is = rw (is.framed, is.value_is, is.id_is, is.flags, is.cid, is.service) refl

pub release_shared : (m : List ℕ) (service cid : ℕ) → OfControl m 0x23 (Some (service ∷ cid ∷ [])) → (service == 0) ≡ false → (cid == 0) ≡ false → (cid == 255) ≡ false → view_decides true m ≡ false
release_shared m service cid is some low high = rw (is.framed, is.value_is, is.id_is, is.flags, is.cid, is.service, some, low, high) refl

release_refused_by : (device m : List ℕ) (service cid : ℕ) (a b : Bool) → OfControl m 0x23 (Some (service ∷ cid ∷ [])) → (cid == 0) ≡ a → (cid == 255) ≡ b → (a || b) ≡ true → (view_decides true m ≡ true) × (own_error device true m ≡ 7)
release_refused_by device m service cid a b is low high bad = (
  rw (is.framed, is.value_is, is.id_is, is.flags, is.cid, is.service, low, high) (any_true (service == 0) a b bad),
  rw (is.framed, is.value_is, is.id_is, is.flags, is.cid, is.service) refl,
)

pub release_refused : (device m : List ℕ) (service cid : ℕ) → OfControl m 0x23 (Some (service ∷ cid ∷ [])) → (cid == 0 || (cid == 255)) ≡ true → (view_decides true m ≡ true) × (own_error device true m ≡ 7)
release_refused device m service cid is bad = release_refused_by device m service cid (cid == 0) (cid == 255) is refl refl bad

pub record Opens (device m : List ℕ) : Type 0 where
  pub fine : is_malformed m ≡ false
  pub opening : opens device m ≡ true
  pub decides : view_decides false m ≡ true
  pub error : own_error device false m ≡ 0

bytes_same : (bytes : List ℕ) → bytes_eq bytes bytes ≡ true
bytes_same [] = refl
bytes_same (byte ∷ bytes) = rw (eq-eqb byte byte refl) (bytes_same bytes)

pub open_opens : (device m : List ℕ) → OfControl m 0xFF00 (Some device) → Opens device m
open_opens device m is =
    let same : bytes_eq device device ≡ true = bytes_same device in
    record {
      fine = rw (is.framed, is.value_is, is.id_is, is.flags, is.cid, is.service) refl;
      opening = rw (is.value_is, is.id_is, is.service, same) refl;
      decides = rw (is.framed, is.value_is, is.id_is, is.flags, is.cid, is.service) refl;
      error = rw (is.framed, is.value_is, is.id_is, is.flags, is.cid, is.service, same) refl;
    }
