-- What TLVs keep of the members before them.
use Rattle.std.proofs.Common.{◌≡◌, ℕ, ◌≤◌, ◌==◌, ◌&&◌, Bool, true, false, List, [], ◌∷◌, Option, Some, None, IfSome, IfOk, Result, codes, encode_utf8_all, refl, arith, if◌then◌else◌}
use Rattle.std.proofs.lemmas.Result.{IfOk-weaker}
use Rattle.std.specs.List.{AllByRecursion, find}
use Rattle.serde_json.specs.Data.{Data, unsigned as natural, number as numeral, string as quoted, object, Members, no_members, put, depth, members_depth}
use Rattle.serde_json.specs.Read.{max_depth, read}
use Rattle.serde_json.specs.Written.{has_float, members_have_float}
use Rattle.tlv_codec.specs.Tlv.{Entry, tlvs_of}
use Rattle.qmi_shapes.specs.Form.{Form}
use Rattle.qmi_values.specs.Value.{Value}
use Rattle.tlv_values.specs.Reading.{reading}
use Rattle.message_tables.specs.Tlvs.{TlvForm, nesting}
use Rattle.message_tables.specs.WellMade.{IsSoundTlv}
use Rattle.dissect.specs.Qmi.{tlv_name}
use Rattle.dissect.proofs.Sound.{form_sound}
use Rattle.json_values.specs.declared.ending.Ending.{Ending}
use Rattle.json_values.specs.declared.ending.Ending.TheVariants.{Success, Denied, FunctionError}
use Rattle.json_values.specs.Showing.{Showing}
use Rattle.json_values.specs.Json.{hexadecimal, with_field}
use Rattle.json_values.specs.Lines.{json_text}
use Rattle.json_values.specs.Ends.{with_error, with_ending, with_kept}
use Rattle.json_values.proofs.JsonMembers.{put-shallow, put-no_float}
use Rattle.json_values.proofs.Shallow.{with_field-shallow, with_field-no_float}
use Rattle.json_values.proofs.Answered.{with_ending-no_float, with_kept-no_float}
use Rattle.tlv_codec.specs.declared.outcome.Outcome.{Outcome}
use Rattle.table_requests.specs.Messages.{ending_of, answer_json, indication_json}
use Rattle.table_requests.specs.Tlvs.{with_reading, with_form, with_tlv, with_tlvs, with_all}

module _ (P : Members → Type 0) (showing : Showing) (digits_keep : (key bytes : List ℕ) (so_far : Members) → P so_far → P (put key (hexadecimal bytes) so_far))
    (field_keeps : (key : List ℕ) (form : Form) (value : Value) (so_far : Members) → nesting form ≤ 16 → P so_far → P (with_field showing key form value so_far)) where
  reading_keeps : (entry : Entry) (form : TlvForm) (value : Option Value) (so_far : Members) → nesting form.form ≤ 16 → P so_far → P (with_reading showing entry form value so_far)
  reading_keeps entry form None so_far nests kept = digits_keep (tlv_name entry.kind) entry.value so_far kept
  reading_keeps entry form (Some value) so_far nests kept = field_keeps (encode_utf8_all form.name) form.form value so_far nests kept

  form_keeps : (entry : Entry) (form : Option TlvForm) (so_far : Members) → IfSome form IsSoundTlv → P so_far → P (with_form showing entry form so_far)
  form_keeps entry None so_far sound kept = digits_keep (tlv_name entry.kind) entry.value so_far kept
  form_keeps entry (Some form) so_far sound kept = reading_keeps entry form (reading form.form entry.value) so_far sound.nests_well kept

  tlv_keeps : (answer : Bool) (forms : List TlvForm) (entry : Entry) (so_far : Members) → AllByRecursion IsSoundTlv forms → P so_far → P (with_tlv showing answer forms entry so_far)
  tlv_keeps answer forms entry so_far sound kept = by (answer && (entry.kind == 2)) (form_keeps entry found so_far (form_sound forms (λ (form : TlvForm). form.kind == entry.kind) found sound refl) kept)
    where
      found : Option TlvForm
      found = find (λ (form : TlvForm). form.kind == entry.kind) forms

      by : (b : Bool) → P (with_form showing entry found so_far) → P (if b then so_far else with_form showing entry found so_far)
      by true more = kept
      by false more = more

  tlvs_keep : (answer : Bool) (forms : List TlvForm) (entries : List Entry) (so_far : Members) → AllByRecursion IsSoundTlv forms → P so_far → P (with_tlvs showing answer forms entries so_far)
  tlvs_keep answer forms [] so_far sound kept = kept
  tlvs_keep answer forms (entry ∷ more) so_far sound kept = tlv_keeps answer forms entry (with_tlvs showing answer forms more so_far) sound (tlvs_keep answer forms more so_far sound kept)

  all_keep : (answer : Bool) (forms : List TlvForm) (bytes : List ℕ) (entries : Option (List Entry)) (so_far : Members) → AllByRecursion IsSoundTlv forms → P so_far → P (with_all showing answer forms bytes entries so_far)
  all_keep answer forms bytes None so_far sound kept = digits_keep (codes "tlvs") bytes so_far kept
  all_keep answer forms bytes (Some entries) so_far sound kept = tlvs_keep answer forms entries so_far sound kept

pub tlvs-no_float : (showing : Showing) (answer : Bool) (forms : List TlvForm) (bytes : List ℕ) → AllByRecursion IsSoundTlv forms → members_have_float (with_all showing answer forms bytes (tlvs_of bytes) no_members) ≡ false
tlvs-no_float showing answer forms bytes sound =
    all_keep (λ (held : Members). members_have_float held ≡ false) showing (λ key digits so_far none. put-no_float key (hexadecimal digits) so_far refl none)
    (λ key form value so_far nests none. with_field-no_float showing key form value so_far none) answer forms bytes (tlvs_of bytes) no_members sound refl

digits-shallow : (key bytes : List ℕ) (so_far : Members) → members_depth so_far ≤ 16 → members_depth (put key (hexadecimal bytes) so_far) ≤ 16
digits-shallow key bytes so_far less = let added = put-shallow key (hexadecimal bytes) so_far in omega (arith, added, less)

field-shallow : (showing : Showing) (key : List ℕ) (form : Form) (value : Value) (so_far : Members) → nesting form ≤ 16 → members_depth so_far ≤ 16 → members_depth (with_field showing key form value so_far) ≤ 16
field-shallow showing key form value so_far nests less = let added = with_field-shallow showing key form value so_far in omega (arith, added, nests, less)

pub tlvs-shallow : (showing : Showing) (answer : Bool) (forms : List TlvForm) (bytes : List ℕ) → AllByRecursion IsSoundTlv forms → members_depth (with_all showing answer forms bytes (tlvs_of bytes) no_members) ≤ 16
tlvs-shallow showing answer forms bytes sound =
    all_keep (λ (held : Members). members_depth held ≤ 16) showing digits-shallow (field-shallow showing) answer forms bytes (tlvs_of bytes) no_members sound (omega arith)

-- ---- whole messages ----

error-shallow : (word : List ℕ) (error : ℕ) (so_far : Members) → members_depth so_far ≤ 16 → members_depth (with_error word error so_far) ≤ 16
error-shallow word error so_far less =
    let numbered = put-shallow (codes "error") (numeral (natural error)) so_far in
    let added = put-shallow (codes "result") (quoted word) (put (codes "error") (numeral (natural error)) so_far) in
    omega (arith, numbered, added, less)

ending-shallow : (end : Ending) (so_far : Members) → members_depth so_far ≤ 16 → members_depth (with_ending end so_far) ≤ 16
ending-shallow Success so_far less = let added = put-shallow (codes "result") (quoted (codes "ok")) so_far in omega (arith, added, less)
ending-shallow (Denied error) so_far less = error-shallow (codes "denied") error so_far less
ending-shallow (FunctionError error) so_far less = error-shallow (codes "function error") error so_far less

kept-shallow : (kept : Option (ℕ × ℕ)) (so_far : Members) → members_depth so_far ≤ 16 → members_depth (with_kept kept so_far) ≤ 16
kept-shallow None so_far less = less
kept-shallow (Some kept) so_far less =
    let service : Members = put (codes "service") (numeral (natural kept.0)) no_members in
    let both : Members = put (codes "id") (numeral (natural kept.1)) service in
    let first = put-shallow (codes "service") (numeral (natural kept.0)) no_members in
    let second = put-shallow (codes "id") (numeral (natural kept.1)) service in
    let added = put-shallow (codes "client id kept") (object both) so_far in
    omega (arith, first, second, added, less)

module _ (showing : Showing) (forms : List TlvForm) (tlvs : List ℕ) (sound : AllByRecursion IsSoundTlv forms) where
  answered : Members
  answered = with_all showing true forms tlvs (tlvs_of tlvs) no_members

  pub answer-no_float : (kept : Option (ℕ × ℕ)) (outcome : Outcome) → has_float (answer_json showing forms tlvs kept outcome) ≡ false
  unfolding answered
  answer-no_float kept outcome = with_ending-no_float (ending_of outcome) (with_kept kept answered) (with_kept-no_float kept answered (tlvs-no_float showing true forms tlvs sound))

  pub answer-shallow : (kept : Option (ℕ × ℕ)) (outcome : Outcome) → depth (answer_json showing forms tlvs kept outcome) ≤ 127
  unfolding answered
  answer-shallow kept outcome =
      let less = ending-shallow (ending_of outcome) (with_kept kept answered) (kept-shallow kept answered (tlvs-shallow showing true forms tlvs sound)) in
      omega (arith, less)

  pub indication-no_float : (name : List ℕ) → has_float (indication_json showing name forms tlvs) ≡ false
  indication-no_float name = put-no_float (codes "indication") (quoted (encode_utf8_all name)) (with_all showing false forms tlvs (tlvs_of tlvs) no_members) refl (tlvs-no_float showing false forms tlvs sound)

  pub indication-shallow : (name : List ℕ) → depth (indication_json showing name forms tlvs) ≤ 127
  indication-shallow name =
      let less = tlvs-shallow showing false forms tlvs sound in
      let added = put-shallow (codes "indication") (quoted (encode_utf8_all name)) (with_all showing false forms tlvs (tlvs_of tlvs) no_members) in
      omega (arith, less, added)

-- a text that reads as a shallow value does so without a condition
pub back_whole : {X E : Type 0} (result : Result X E) (json : Data) → depth json ≤ 127 → IfOk result (λ _. depth json ≤ max_depth → read (json_text json) ≡ Some json) → IfOk result (λ _. read (json_text json) ≡ Some json)
back_whole result json less back = IfOk-weaker result _ _ (λ _ reads. reads less) back
