-- Which forms are well made: the others spell nothing, or in more than one way.
use Rattle.std.specs.Prelude.{◌≡◌, ℕ, ◌≤◌, ◌⊎◌}
use Rattle.qmi_shapes.specs.declared.shape.Prefix.{Prefix}
use Rattle.qmi_shapes.specs.declared.shape.Prefix.TheVariants.{Rest, Fixed, Counted}
use Rattle.qmi_shapes.specs.Form.{Form, unsigned, signed, string, array, sequence, Fields, no_fields, field}

abbrev pub IsSize : ℕ → Type 0
IsSize bytes = (1 ≤ bytes) × (bytes ≤ 8)

-- it says how many there are
abbrev pub IsBounded : Prefix → Type 0
IsBounded Rest = ⊥
IsBounded (Fixed count) = 1 ≤ count
IsBounded (Counted bytes) = (bytes ≡ 1) ⊎ ((bytes ≡ 2) ⊎ (bytes ≡ 4))

abbrev pub HasFields : Fields → Type 0
HasFields no_fields = ⊥
HasFields (field name form more) = Unit {0}

-- well made as a part of a form: where its bytes end is known
abbrev mutual
  pub IsPart : Form → Type 0
  IsPart (unsigned bytes) = IsSize bytes
  IsPart (signed bytes) = IsSize bytes
  IsPart (string prefix) = IsBounded prefix
  IsPart (array prefix element) = IsBounded prefix × IsPart element
  IsPart (sequence fields) = HasFields fields × AreParts fields

  pub AreParts : Fields → Type 0
  AreParts no_fields = Unit {0}
  AreParts (field name form more) = IsPart form × AreParts more

-- a text alone may be all the bytes
abbrev pub IsWellMade : Form → Type 0
IsWellMade form = (form ≡ string Rest) ⊎ IsPart form
