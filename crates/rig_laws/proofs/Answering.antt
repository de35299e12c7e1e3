-- A response that the modem writes suits the request that it answers.
use Rattle.std.proofs.Common.{◌≡◌, ℕ, ◌≤◌, true, false, ◌&&◌, ◌==◌, if◌then◌else◌, List, ◌∷◌, ◌++◌, length, Option, Some, None, ap, sym, ◌∙◌, arith, lit≤, length-append}
use Rattle.std.proofs.lemmas.Bool.{eq-eqb, and_from}
use Rattle.kit_bytes.specs.Numbers.{u16_bytes}
use Rattle.qmux_frame.specs.declared.head.Head.{Head}
use Rattle.qmux_frame.specs.declared.writing.NewMessage.{NewMessage}
use Rattle.qmux_frame.specs.declared.kind.MessageKind.{MessageKind}
use Rattle.qmux_frame.specs.declared.kind.MessageKind.TheVariants as kind
use Rattle.qmux_frame.specs.Head.{service_of, cid_of, number_of}
use Rattle.qmux_frame.specs.Kind.{kind_by}
use Rattle.qmux_frame.specs.Control.{is_release}
use Rattle.qmux_frame.specs.Writing.{head_text, inner_head, message_text}
use Rattle.qmux_frame.proofs.Written.{written_is_read}
use Rattle.proxy_history.specs.Facts.{Request}
use Rattle.qmi_proxy.specs.Messages.{value_of, byte_of}
use Rattle.qmi_proxy.specs.FromModem.{brings_id}
use Rattle.rig_laws.proofs.Hears.{Suits}

inner_is_short : (m : NewMessage) (count : ℕ) → length (inner_head m count) ≤ 7
inner_is_short m count =
    elim (m.service == 0) as (λ b. length (if b then m.flags ∷ m.number ∷ u16_bytes m.message ++ u16_bytes count else m.flags ∷ u16_bytes m.number ++ u16_bytes m.message ++ u16_bytes count) ≤ 7) [
      | true ↦ lit≤ tt
      | false ↦ lit≤ tt
    ]

head_is_short : (m : NewMessage) (count : ℕ) → length (head_text m count) ≤ 13
unfolding head_text
head_is_short m count = let inner = inner_is_short m count in omega (arith, inner)

abbrev kind_from : Head → Option MessageKind
kind_from head = if head.framed then Some (kind_by head.service head.flags) else None

pub suits_its_request : (m : NewMessage) (tlvs : List ℕ) (r : Request) → length tlvs ≤ 8000 → kind_by m.service m.flags ≡ kind.Response
    → service_of r.message ≡ m.service → cid_of r.message ≡ m.cid → r.number ≡ m.number → is_release r.message ≡ false
    → (brings_id r.message (message_text m tlvs) ≡ true → byte_of 1 (value_of 0x01 (message_text m tlvs)) ≡ r.conn) → Suits (message_text m tlvs) r
suits_its_request m tlvs r short response service cid number keeps own =
    let read = written_is_read m tlvs in
    let reply : List ℕ = message_text m tlvs in
    let head = head_is_short m (length tlvs) in
    let whole = length-append (head_text m (length tlvs)) tlvs in
    record {
      is_message = read.whole;
      short = omega (arith, head, whole, short);
      response = ap kind_from read.head ∙ ap (λ (k : MessageKind). Some k) response;
      answers =
          and_from (service_of r.message == service_of reply && (cid_of r.message == cid_of reply)) (r.number == number_of reply)
          (and_from (service_of r.message == service_of reply) (cid_of r.message == cid_of reply)
          (eq-eqb _ _ (service ∙ sym (ap (λ (h : Head). h.service) read.head)))
          (eq-eqb _ _ (cid ∙ sym (ap (λ (h : Head). h.cid) read.head))))
          (eq-eqb _ _ (number ∙ sym (ap (λ (h : Head). h.number) read.head)));
      keeps_ids = keeps;
      own_id = own;
    }
