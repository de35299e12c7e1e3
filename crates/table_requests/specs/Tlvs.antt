-- TLVs as members of a JSON object: by their names in a table, or by their types where it lacks them.
use Rattle.std.specs.Prelude.{ℕ, ◌==◌, ◌&&◌, List, [], ◌∷◌, Bool, Option, Some, None, codes, encode_utf8_all, if◌then◌else◌}
use Rattle.std.specs.List.{find}
use Rattle.serde_json.specs.Data.{Members, put}
use Rattle.tlv_codec.specs.Tlv.{Entry}
use Rattle.qmi_values.specs.Value.{Value}
use Rattle.tlv_values.specs.Reading.{reading}
use Rattle.message_tables.specs.Tlvs.{TlvForm}
use Rattle.dissect.specs.Qmi.{tlv_name}
use Rattle.json_values.specs.Showing.{Showing}
use Rattle.json_values.specs.Json.{hexadecimal, with_field}

-- the bytes of a TLV that the table lacks, or whose value doesn't read
abbrev pub with_bytes : Entry → Members → Members
with_bytes entry so_far = put (tlv_name entry.kind) (hexadecimal entry.value) so_far

abbrev pub with_reading : Showing → Entry → TlvForm → Option Value → Members → Members
with_reading showing entry form None so_far = with_bytes entry so_far
with_reading showing entry form (Some value) so_far = with_field showing (encode_utf8_all form.name) form.form value so_far

abbrev pub with_form : Showing → Entry → Option TlvForm → Members → Members
with_form showing entry None so_far = with_bytes entry so_far
with_form showing entry (Some form) so_far = with_reading showing entry form (reading form.form entry.value) so_far

-- the Result TLV of an answer is told by the result
abbrev pub with_tlv : Showing → (answer : Bool) → List TlvForm → Entry → Members → Members
with_tlv showing answer forms entry so_far =
    if answer && (entry.kind == 2) then so_far else with_form showing entry (find (λ form. form.kind == entry.kind) forms) so_far

-- of several TLVs of a type the first counts: it is put last
abbrev pub with_tlvs : Showing → (answer : Bool) → List TlvForm → List Entry → Members → Members
with_tlvs showing answer forms [] so_far = so_far
with_tlvs showing answer forms (entry ∷ more) so_far = with_tlv showing answer forms entry (with_tlvs showing answer forms more so_far)

-- the TLVs that bytes are, or the bytes where they aren't whole TLVs
abbrev pub with_all : Showing → (answer : Bool) → List TlvForm → List ℕ → Option (List Entry) → Members → Members
with_all showing answer forms bytes None so_far = put (codes "tlvs") (hexadecimal bytes) so_far
with_all showing answer forms bytes (Some entries) so_far = with_tlvs showing answer forms entries so_far
