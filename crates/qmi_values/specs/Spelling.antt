-- Which bytes spell a value in a form.
-- Source: libqmi's data/qmi-service-*.json, and how its build-aux/qmi-codegen reads and writes each `format`.
use Rattle.std.specs.Prelude.{◌≡◌, ℕ, List, [], ◌∷◌, ◌++◌, length}
use Rattle.qmi_shapes.specs.declared.shape.Prefix.{Prefix}
use Rattle.qmi_shapes.specs.declared.shape.Prefix.TheVariants.{Rest, Fixed, Counted}
use Rattle.qmi_shapes.specs.Form.{Form, unsigned, signed, string, array, sequence, Fields, no_fields, field}
use Rattle.qmi_values.specs.Value.{Value, number, integer, text, elements, members, list_of}
use Rattle.qmi_values.specs.Numbers.{IsUnsigned, IsSigned}

-- the bytes are some that the first says, and then some that the second says
pub record Follows (First Second : List ℕ → Type 0) (bytes : List ℕ) : Type 0 where
  pub front : List ℕ
  pub back : List ℕ
  pub whole : bytes ≡ front ++ back
  pub before : First front
  pub behind : Second back

-- what stands before so many bytes or elements
abbrev pub IsCount : Prefix → ℕ → List ℕ → Type 0
IsCount Rest count bytes = bytes ≡ []
IsCount (Fixed fixed) count bytes = (count ≡ fixed) × (bytes ≡ [])
IsCount (Counted size) count bytes = IsUnsigned size count bytes

-- the values' spellings, one after another
abbrev pub EachSpells : (Value → List ℕ → Type 0) → List Value → List ℕ → Type 0
EachSpells Spelled [] bytes = bytes ≡ []
EachSpells Spelled (value ∷ values) bytes = Follows (Spelled value) (EachSpells Spelled values) bytes

abbrev mutual
  pub Spells : Form → Value → List ℕ → Type 0
  Spells (unsigned size) (number n) bytes = IsUnsigned size n bytes
  Spells (signed size) (integer z) bytes = IsSigned size z bytes
  Spells (string prefix) (text octets) bytes = Follows (IsCount prefix (length octets)) (λ back. back ≡ octets) bytes
  Spells (array prefix element) (elements values) bytes =
      Follows (IsCount prefix (length (list_of values))) (EachSpells (Spells element) (list_of values)) bytes
  Spells (sequence fields) (members values) bytes = FieldsSpell fields (list_of values) bytes
  Spells form value bytes = ⊥

  -- the fields' spellings, one after another
  pub FieldsSpell : Fields → List Value → List ℕ → Type 0
  FieldsSpell no_fields [] bytes = bytes ≡ []
  FieldsSpell (field name form more) (value ∷ values) bytes = Follows (Spells form value) (FieldsSpell more values) bytes
  FieldsSpell _ values bytes = ⊥
