-- The TLVs of messages.
-- Source: the members `input` and `output` in libqmi's data/qmi-service-*.json, and Container.py in build-aux/qmi-codegen.
use Rattle.std.specs.Prelude.{ℕ, ◌==◌, ◌||◌, nat_le, max, suc, List, [], ◌∷◌, ◌++◌, Bool, false, Option, Some, None, chars}
use Rattle.std.specs.List.{list_any, list_all}
use Rattle.serde_json.specs.Data.{Data, Items}
use Rattle.qmi_shapes.specs.Form.{Form, unsigned, signed, string, array, sequence, Fields, no_fields, field}
use Rattle.message_tables.specs.declared.fault.MemberName.{MemberName}
use Rattle.message_tables.specs.declared.fault.MemberName.TheVariants.{Name, Id, CommonRef}
use Rattle.message_tables.specs.Reading.{Reading, faulty, known, and_then, applied, required, listed}
use Rattle.message_tables.specs.Members.{value_in, text_in, objects_in}
use Rattle.message_tables.specs.Numbers.{tlv_id_in}
use Rattle.message_tables.specs.Definitions.{Definition, Names, referred}
use Rattle.message_tables.specs.Forms.{form_of}

-- the name is a list of characters
pub record TlvForm : Type 0 where
  pub kind : ℕ
  pub name : List ℕ
  pub form : Form

abbrev pub tlv_with : List ℕ → Form → ℕ → TlvForm
tlv_with name form kind = record { kind = kind; name = name; form = form }

abbrev pub tlv_for : Option Definition → Reading TlvForm
tlv_for None = faulty CommonRef
tlv_for (Some definition) = and_then (λ name kind. tlv_with name definition.form kind) (required Name definition.name) (required Id definition.id)

abbrev pub named_kind : List ℕ → ℕ → Form → TlvForm
named_kind bytes kind form = tlv_with (chars bytes) form kind

abbrev pub tlv_by : Names → Option Data → Data → Reading TlvForm
tlv_by names (Some reference) entry = tlv_for (referred names reference)
tlv_by names None entry =
    applied (and_then named_kind (required Name (text_in Name entry)) (required Id (tlv_id_in entry))) (form_of names entry)

-- the TLV that an object describes: what its `common-ref` stands for, and else its name, its id and its form
unfoldable pub tlv_of : Names → Data → Reading TlvForm
tlv_of names entry = tlv_by names (value_in CommonRef entry) entry

abbrev pub tlvs_listed : MemberName → Names → Option Items → Reading (List TlvForm)
tlvs_listed which names None = faulty which
tlvs_listed which names (Some objects) = listed (tlv_of names) objects

abbrev pub tlvs_at : MemberName → Names → Option Data → Reading (List TlvForm)
tlvs_at which names None = known []
tlvs_at which names (Some value) = tlvs_listed which names (objects_in value)

-- the TLVs that a member lists, none where it is missing
unfoldable pub tlvs_in : MemberName → Names → Data → Reading (List TlvForm)
tlvs_in which names entry = tlvs_at which names (value_in which entry)

-- one of these has the id of one before it
abbrev pub twice_behind : List TlvForm → List TlvForm → Bool
twice_behind earlier [] = false
twice_behind earlier (first ∷ more) = list_any (λ tlv. tlv.kind == first.kind) earlier || twice_behind (earlier ++ first ∷ []) more

-- some id stands twice
abbrev pub has_twice : List TlvForm → Bool
has_twice tlvs = twice_behind [] tlvs

-- ---- formats inside each other ----

abbrev mutual
  -- how many formats stand inside each other
  pub nesting : Form → ℕ
  nesting (unsigned bytes) = 1
  nesting (signed bytes) = 1
  nesting (string prefix) = 1
  nesting (array prefix element) = suc (nesting element)
  nesting (sequence fields) = suc (fields_nesting fields)

  pub fields_nesting : Fields → ℕ
  fields_nesting no_fields = 0
  fields_nesting (field name form more) = max (nesting form) (fields_nesting more)

-- a number of one byte, whose list is shown by its digits
abbrev pub is_byte : Form → Bool
is_byte (unsigned size) = size == 1
is_byte _ = false

abbrev pub nests_well : Form → Bool
nests_well form = nat_le (nesting form) 16

abbrev pub nest_well : List TlvForm → Bool
nest_well tlvs = list_all (λ tlv. nests_well tlv.form) tlvs
