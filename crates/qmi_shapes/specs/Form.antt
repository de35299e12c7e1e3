-- How values stand in bytes.
-- Source: the members `format`, `size-prefix-format`, `fixed-size`, `guint-size`, `array-element` and `contents` in libqmi's data/qmi-service-*.json.
use Rattle.std.specs.Prelude.{ℕ, List}
use Rattle.qmi_shapes.specs.declared.shape.Prefix.{Prefix}

-- the sizes of numbers are in bytes; a sequence's fields have their names and their forms
mutual
  pub data Form : Type 0 where
    unsigned : ℕ → Form
    signed : ℕ → Form
    string : Prefix → Form
    array : Prefix → Form → Form
    sequence : Fields → Form

  pub data Fields : Type 0 where
    no_fields : Fields
    field : List ℕ → Form → Fields → Fields
