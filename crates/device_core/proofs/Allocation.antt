-- The Allocation of a success has two bytes.
use Rattle.std.proofs.Common.{◌≡◌, ℕ, List, [], ◌∷◌, length, Option, Some, None, Ok, refl, sym, ◌∙◌, ap, arith, length-append}
use Rattle.std.specs.Option.{IsSome, option_and_then}
use Rattle.std.specs.List.{slice_get}
use Rattle.std.specs.Prelude.{chars, codes}
use Rattle.qmux_frame.specs.Head.{tlvs_in}
use Rattle.qmi_requests.specs.declared.QmiRequest.TheVariants.{Allocate}
use Rattle.qmi_shapes.specs.Form.{unsigned, no_fields, field}
use Rattle.qmi_values.specs.Value.{Value, number, integer, text, elements, members, list_of}
use Rattle.qmi_values.specs.Spelling.{Spells, FieldsSpell}
use Rattle.qmi_services.specs.Table.{client_id, needed}
use Rattle.qmi_services.specs.Answers.{FieldValue, Says}
use Rattle.qmi_services.specs.declared.answers.QmiAnswer.{QmiAnswer}
use Rattle.qmi_services.specs.declared.answers.QmiAnswer.TheVariants.{Success, Failure}
use Rattle.link_session.specs.Marks.{Placed}
use Rattle.device_core.specs.Hearing.{failure_in}
use Rattle.device_core.specs.Session.{Reads, allocated_in}

one_byte : (value : Value) (bytes : List ℕ) → Spells (unsigned 1) value bytes → length bytes ≡ 1
one_byte (number n) bytes spells = spells.are.count
one_byte (integer z) bytes spells = absurd spells
one_byte (text octets) bytes spells = absurd spells
one_byte (elements list) bytes spells = absurd spells
one_byte (members list) bytes spells = absurd spells

module _ (first second : List ℕ) where
  two_numbers : (values : List Value) (bytes : List ℕ) → FieldsSpell (field first (unsigned 1) (field second (unsigned 1) no_fields)) values bytes → length bytes ≡ 2
  two_numbers [] bytes spells = absurd spells
  two_numbers (a ∷ []) bytes spells = absurd spells.behind
  two_numbers (a ∷ b ∷ []) bytes spells =
      omega (
        arith,
        one_byte a spells.front spells.before,
        one_byte b spells.behind.front spells.behind.before,
        ap length spells.whole,
        length-append spells.front spells.back,
        ap length spells.behind.whole,
        length-append spells.behind.front spells.behind.back,
        ap length spells.behind.behind,
      )
  two_numbers (a ∷ b ∷ c ∷ values) bytes spells = absurd spells.behind.behind

two_bytes : (value : Value) (bytes : List ℕ) → Spells client_id value bytes → length bytes ≡ 2
two_bytes (members values) bytes spells = two_numbers (chars (codes "Service")) (chars (codes "Client id")) (list_of values) bytes spells
two_bytes (number n) bytes spells = absurd spells
two_bytes (integer z) bytes spells = absurd spells
two_bytes (text octets) bytes spells = absurd spells
two_bytes (elements list) bytes spells = absurd spells

second_of : (bytes : List ℕ) → length bytes ≡ 2 → IsSome (slice_get bytes 1)
second_of [] two = absurd (omega (arith, two))
second_of (a ∷ []) two = absurd (omega (arith, two))
second_of (a ∷ b ∷ bytes) two = refl

says_some : (value : Option (List ℕ)) (fields : List FieldValue) → Says (needed 0x01 "Allocation" client_id) value fields → IsSome (option_and_then (λ bytes. slice_get bytes 1) value)
says_some None fields says = absurd (cc)
says_some (Some bytes) fields says = second_of bytes (two_bytes says.0 bytes says.2)

-- an answer that is read and no failure has one
pub allocated-some : (service : ℕ) (message : Placed) (answer : QmiAnswer) → failure_in answer ≡ None → Reads (Allocate service) message (Ok answer) → IsSome (allocated_in (tlvs_in message.bytes))
allocated-some service message (Success fields) none reads = says_some _ reads.1.1.0 reads.1.1.3
allocated-some service message (Failure error) none reads = absurd (cc)

-- it is the client id
pub allocated-in : {message bytes tlvs : List ℕ} {cid : ℕ} → tlvs ≡ tlvs_in bytes → bytes ≡ message → allocated_in tlvs ≡ Some cid → allocated_in (tlvs_in message) ≡ Some cid
allocated-in tlvs_are bytes_are is = ap allocated_in (sym (tlvs_are ∙ ap tlvs_in bytes_are)) ∙ is
