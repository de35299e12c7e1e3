-- The one spelling of a value in a form.
-- Source: libqmi's data/qmi-service-*.json, and how its build-aux/qmi-codegen writes each `format`.
use Rattle.std.specs.Prelude.{ℕ, ℤ, pos, negsuc, ◌+◌, ◌-◌, ◌*◌, ◌^◌, ◌≤◌, nat_lt, ◌==◌, ◌&&◌, Bool, true, false, IsTrue, List, [], ◌∷◌, ◌++◌, length}
use Rattle.std.specs.List.{flat_map, list_all}
use Rattle.kit_bytes.specs.Numbers.{number_bytes}
use Rattle.qmi_shapes.specs.declared.shape.Prefix.{Prefix}
use Rattle.qmi_shapes.specs.declared.shape.Prefix.TheVariants.{Rest, Fixed, Counted}
use Rattle.qmi_shapes.specs.Form.{Form, unsigned, signed, string, array, sequence, Fields, no_fields, field}
use Rattle.qmi_values.specs.Value.{Value, number, integer, text, elements, members, list_of}

-- ---- which values a form has ----

-- a number fits so many bytes
abbrev pub unsigned_fits : ℕ → ℕ → Bool
unsigned_fits size n = nat_lt n (2 ^ (8 * size))

-- so does a signed one, in two's complement
abbrev pub signed_fits : ℕ → ℤ → Bool
signed_fits size (pos n) = nat_lt n (2 ^ (8 * size - 1))
signed_fits size (negsuc n) = nat_lt n (2 ^ (8 * size - 1))

-- there may be so many bytes or elements
abbrev pub count_fits : Prefix → ℕ → Bool
count_fits Rest count = true
count_fits (Fixed fixed) count = count == fixed
count_fits (Counted size) count = unsigned_fits size count

abbrev mutual
  -- the form has a spelling of the value
  pub fits : Form → Value → Bool
  fits (unsigned size) (number n) = unsigned_fits size n
  fits (signed size) (integer z) = signed_fits size z
  fits (string prefix) (text octets) = count_fits prefix (length octets)
  fits (array prefix element) (elements values) = count_fits prefix (length (list_of values)) && list_all (fits element) (list_of values)
  fits (sequence fields) (members values) = fields_fit fields (list_of values)
  fits form value = false

  pub fields_fit : Fields → List Value → Bool
  fields_fit no_fields [] = true
  fields_fit (field name form more) (value ∷ values) = fits form value && fields_fit more values
  fields_fit _ values = false

-- ---- their spellings ----

-- the number whose bits in so many bytes are those of a signed number
abbrev pub bits : ℕ → ℤ → ℕ
bits size (pos n) = n
bits size (negsuc n) = 2 ^ (8 * size) - (n + 1)

-- what stands before so many bytes or elements
abbrev pub count_bytes : Prefix → ℕ → List ℕ
count_bytes Rest count = []
count_bytes (Fixed fixed) count = []
count_bytes (Counted size) count = number_bytes size count

abbrev mutual
  -- the spelling of a value that fits
  pub spelling : Form → Value → List ℕ
  spelling (unsigned size) (number n) = number_bytes size n
  spelling (signed size) (integer z) = number_bytes size (bits size z)
  spelling (string prefix) (text octets) = count_bytes prefix (length octets) ++ octets
  spelling (array prefix element) (elements values) = count_bytes prefix (length (list_of values)) ++ flat_map (spelling element) (list_of values)
  spelling (sequence fields) (members values) = fields_spelling fields (list_of values)
  spelling form value = []

  pub fields_spelling : Fields → List Value → List ℕ
  fields_spelling (field name form more) (value ∷ values) = spelling form value ++ fields_spelling more values
  fields_spelling _ values = []

-- a TLV has room for the value
pub record FitsTlv (form : Form) (value : Value) : Type 0 where
  pub of_form : IsTrue (fits form value)
  pub short : length (spelling form value) ≤ 65535
