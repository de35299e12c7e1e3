-- Worked lines of the table, inputs of requests, and outputs of successes.
use Rattle.std.proofs.Common.{◌≡◌, ℕ, refl, ap, List, [], ◌∷◌, Option, Some, None}
use Rattle.std.specs.Prelude.{option_and_then}
use Rattle.tlv_codec.specs.Tlv.{Entry, tlv_text, first_value}
use Rattle.tlv_codec.proofs.Texts.{tlvs_of-text}
use Rattle.qmi_shapes.specs.Form.{Form}
use Rattle.qmi_values.specs.Value.{number, text}
use Rattle.tlv_values.specs.Reading.{reading, value_in}
use Rattle.qmi_services.specs.Table.{u32, dms, wms, get_ids, get_model, get_serving_system, delete}
use Rattle.qmi_services.specs.Modem.{row_at, input_of, output_tlvs}

model_is_there : row_at dms 0x0022 ≡ Some get_model
unfolding row_at
model_is_there = refl

other_service_has_delete : row_at wms 0x0024 ≡ Some delete
unfolding row_at
other_service_has_delete = refl

unknown_is_not : row_at dms 0x0042 ≡ None
unfolding row_at
unknown_is_not = refl

abbrev entry : (kind : ℕ) (value : List ℕ) → Entry
entry kind value = record { kind = kind; value = value }

in_tlvs : (kind : ℕ) (form : Form) (entries : List Entry) → value_in kind form (tlv_text entries) ≡ option_and_then (reading form) (first_value kind entries)
in_tlvs kind form entries = ap (λ (o : Option (List Entry)). option_and_then (reading form) (option_and_then (first_value kind) o)) (tlvs_of-text entries)

-- the index that a delete names
abbrev deleted : List Entry
deleted = entry 0x01 (1 ∷ []) ∷ entry 0x10 (3 ∷ 1 ∷ 0 ∷ 0 ∷ []) ∷ []

index_is_read : input_of delete 0x10 (tlv_text deleted) ≡ Some (number 259)
index_is_read = in_tlvs 0x10 u32 deleted

-- a message without an input of this type has no value for it
model_has_no_input : input_of get_model 0x01 (tlv_text deleted) ≡ None
model_has_no_input = refl

-- of the three ids only IMEI is given
imei_alone : output_tlvs get_ids.output (None ∷ Some (text (52 ∷ 55 ∷ [])) ∷ None ∷ []) ≡ entry 0x11 (52 ∷ 55 ∷ []) ∷ []
imei_alone = refl

-- roaming with its TLV, and neither the serving system nor the network
roaming_alone : output_tlvs get_serving_system.output (None ∷ Some (number 1) ∷ None ∷ []) ≡ entry 0x10 (1 ∷ []) ∷ []
roaming_alone = refl
