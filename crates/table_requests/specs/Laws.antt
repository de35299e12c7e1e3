-- What is written is read back as the same values.
use Rattle.std.specs.Prelude.{◌≡◌, ℕ, List, Ok, Some, false}
use Rattle.std.specs.List.{AllByRecursion}
use Rattle.serde_json.specs.Data.{Data}
use Rattle.tlv_values.specs.Reading.{value_in}
use Rattle.message_tables.specs.Tlvs.{TlvForm, has_twice}
use Rattle.message_tables.specs.WellMade.{IsSoundTlv}
use Rattle.table_requests.specs.Requests.{TlvValue, tlvs_given, request_of}

-- the value of a TLV is read from these bytes
abbrev pub IsReadIn : List ℕ → TlvValue → Type 0
IsReadIn bytes one = value_in one.tlv.kind one.tlv.form bytes ≡ Some one.value

-- each value that an object gives is read from the TLVs that it gives, by the decoders of answers
abbrev pub ReadsBack : List TlvForm → Data → List ℕ → Type 0
ReadsBack tlvs json bytes = (values : List TlvValue) × (tlvs_given tlvs json ≡ Ok values) × AllByRecursion (IsReadIn bytes) values

abbrev pub AreReadBack : Type 0
AreReadBack = (tlvs : List TlvForm) (json : Data) (bytes : List ℕ) → AllByRecursion IsSoundTlv tlvs → has_twice tlvs ≡ false → request_of tlvs json ≡ Ok bytes → ReadsBack tlvs json bytes
