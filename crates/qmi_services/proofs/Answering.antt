-- Reading the TLVs of the table, one after another.
use Rattle.std.proofs.Common.{◌≡◌, ℕ, zero, suc, ◌+◌, ◌<◌, inl, inr, List, [], ◌∷◌, ◌++◌, Option, Some, None, length, get_or, take, map, refl, sym, ◌∙◌, ap, subst, arith, append_assoc}
use Rattle.std.proofs.lemmas.List.{append-nil, map_push, take_more}
use Rattle.std.proofs.lemmas.Option.{none-some, option_and_then_some}
use Rattle.std.specs.Prelude.{◌==◌}
use Rattle.kit_bytes.specs.Numbers.{u16_bytes}
use Rattle.framing.specs.Framing.{AreBytes}
use Rattle.tlv_codec.specs.Tlv.{Entry, entry_text, tlv_text, tlvs_of, first_value, tlv_value}
use Rattle.tlv_codec.proofs.Texts.{text_of_read}
use Rattle.tlv_values.specs.Reading.{reading}
use Rattle.tlv_values.proofs.Readings.{read-back, bytes-front, bytes-back}
use Rattle.qmi_services.proofs.Found.{holds-here}
use Rattle.qmi_shapes.specs.Form.{Form}
use Rattle.qmi_shapes.specs.WellMade.{IsWellMade}
use Rattle.qmi_values.specs.Value.{Value}
use Rattle.qmi_values.specs.Spelling.{Spells}
use Rattle.message_tables.specs.Tlvs.{TlvForm}
use Rattle.qmi_services.specs.Table.{Output}
use Rattle.qmi_services.specs.Answers.{FieldValue, named, Says, AllSay, AddsField, IsUnread, AnyUnread, AreWellMade, IfUnread}
use Rattle.qmi_services.specs.declared.answers.AnswerFault.{AnswerFault}
use Rattle.qmi_services.specs.declared.answers.AnswerFault.TheVariants.{Unread, OutOfMemory}

-- ---- one TLV ----

pub Says-read : (output : Output) (tlv : TlvForm) (tlvs bytes name : List ℕ) (form : Form) (value : Value) → tlv ≡ output.tlv → Some bytes ≡ tlv_value tlv.kind tlvs
    → name ≡ tlv.name → form ≡ tlv.form → Spells form value bytes → Says output (tlv_value output.tlv.kind tlvs) (record { name = name; form = form; value = value } ∷ [])
Says-read output tlv tlvs bytes name form value same found names forms spelled =
    let there : Some bytes ≡ tlv_value output.tlv.kind tlvs = found ∙ ap (λ (t : TlvForm). tlv_value t.kind tlvs) same in
    let form_is : form ≡ output.tlv.form = forms ∙ ap (λ (t : TlvForm). t.form) same in
    let name_is : name ≡ output.tlv.name = names ∙ ap (λ (t : TlvForm). t.name) same in
    let field : List ℕ → Form → FieldValue = λ (n : List ℕ) (f : Form). record { name = n; form = f; value = value } in
    let is : field name form ∷ [] ≡ named output value ∷ [] = ap (λ (n : List ℕ). field n form ∷ []) name_is ∙ ap (λ (f : Form). field output.tlv.name f ∷ []) form_is in
    subst (λ (o : Option (List ℕ)). Says output o (field name form ∷ [])) there (value, is, subst (λ (f : Form). Spells f value bytes) form_is spelled)

pub IsUnread-read : (output : Output) (tlv : TlvForm) (tlvs bytes : List ℕ) (form : Form) → tlv ≡ output.tlv → Some bytes ≡ tlv_value tlv.kind tlvs → form ≡ tlv.form → IsWellMade output.tlv.form
    → None ≡ reading form bytes → IsUnread output (tlv_value output.tlv.kind tlvs)
IsUnread-read output tlv tlvs bytes form same found forms made none =
    let there : Some bytes ≡ tlv_value output.tlv.kind tlvs = found ∙ ap (λ (t : TlvForm). tlv_value t.kind tlvs) same in
    let form_is : form ≡ output.tlv.form = forms ∙ ap (λ (t : TlvForm). t.form) same in
    let unread : None ≡ reading output.tlv.form bytes = subst (λ (f : Form). None ≡ reading f bytes) form_is none in
    subst (λ (o : Option (List ℕ)). IsUnread output o) there (λ value spells. none-some value (unread ∙ read-back output.tlv.form value bytes made spells))

first-bytes : (entries : List Entry) (kind : ℕ) (value : List ℕ) → AreBytes (tlv_text entries) → first_value kind entries ≡ Some value → AreBytes value
first-bytes [] kind value are is = absurd cc
first-bytes (entry ∷ entries) kind value are is =
    let here = bytes-front (entry_text entry) (tlv_text entries) are in
    let rest = bytes-back (entry_text entry) (tlv_text entries) are in
    holds-here AreBytes (entry.kind == kind) entry.value value (first_value kind entries) is (bytes-back (entry.kind ∷ u16_bytes (length entry.value)) entry.value here) (first-bytes entries kind value rest)

-- the value of a TLV among bytes is of bytes
pub value-bytes : (kind : ℕ) (tlvs value : List ℕ) → AreBytes tlvs → Some value ≡ tlv_value kind tlvs → AreBytes value
value-bytes kind tlvs value are found =
    option_and_then_some (first_value kind) (tlvs_of tlvs) value (sym found)
    (λ entries of_tlvs of_value. first-bytes entries kind value (subst AreBytes (text_of_read tlvs entries are of_tlvs) are) of_value)

pub IfUnread-weaker : (P Q : Type 0) (fault : AnswerFault) → (P → Q) → IfUnread P fault → IfUnread Q fault
IfUnread-weaker P Q Unread weaker holds = weaker holds
IfUnread-weaker P Q OutOfMemory weaker holds = tt

-- ---- one TLV more ----

AllSay-push : (outputs : List Output) (output : Output) (tlvs : List ℕ) (fields here : List FieldValue) → AllSay outputs tlvs fields → Says output (tlv_value output.tlv.kind tlvs) here
    → AllSay (outputs ++ output ∷ []) tlvs (fields ++ here)
AllSay-push [] output tlvs fields here none says = (here, [], ap (λ (l : List FieldValue). l ++ here) none ∙ sym (append-nil here), says, refl)
AllSay-push (first ∷ outputs) output tlvs fields here (a, b, whole, said, rest) says =
    (a, b ++ here, ap (λ (l : List FieldValue). l ++ here) whole ∙ append_assoc a b here, said, AllSay-push outputs output tlvs b here rest says)

pub AllSay-more : {B : Type 0} (view : B → Output) (outputs : List B) (i : ℕ) (output : B) (tlvs : List ℕ) (old new : List FieldValue) → i < length outputs → output ≡ get_or outputs i output
    → AllSay (map view (take i outputs)) tlvs old → AddsField (view output) tlvs old new → AllSay (map view (take (i + 1) outputs)) tlvs new
AllSay-more view outputs i output tlvs old new within is all (here, whole, says) =
    let taken : map view (take (i + 1) outputs) ≡ map view (take i outputs) ++ view output ∷ [] =
    ap (map view) (take_more outputs i output within) ∙ map_push view (take i outputs) (get_or outputs i output) ∙ ap (λ x. map view (take i outputs) ++ view x ∷ []) (sym is) in
    rw (taken, whole) (AllSay-push (map view (take i outputs)) (view output) tlvs old here all says)

-- ---- one of the TLVs ----

pub AreWellMade-at : {B : Type 0} (view : B → Output) (outputs : List B) (i : ℕ) (output : B) → AreWellMade (map view outputs) → i < length outputs → output ≡ get_or outputs i output
    → IsWellMade (view output).tlv.form
AreWellMade-at view [] i output all within is = absurd (omega arith)
AreWellMade-at view (first ∷ outputs) zero output all within is = rw is all.0
AreWellMade-at view (first ∷ outputs) (suc i) output all within is = AreWellMade-at view outputs i output all.1 (omega arith) is

pub AnyUnread-at : {B : Type 0} (view : B → Output) (outputs : List B) (i : ℕ) (output : B) (tlvs : List ℕ) → i < length outputs → output ≡ get_or outputs i output
    → IsUnread (view output) (tlv_value (view output).tlv.kind tlvs) → AnyUnread (map view outputs) tlvs
AnyUnread-at view [] i output tlvs within is unread = absurd (omega arith)
AnyUnread-at view (first ∷ outputs) zero output tlvs within is unread = inl (rw is at unread)
AnyUnread-at view (first ∷ outputs) (suc i) output tlvs within is unread = inr (AnyUnread-at view outputs i output tlvs (omega arith) is unread)
