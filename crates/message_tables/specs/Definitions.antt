-- Definitions that later objects refer to by a name, their `common-ref`.
-- Source: libqmi's data/qmi-common.json, and Container.py in build-aux/qmi-codegen.
use Rattle.std.specs.Prelude.{ℕ, List, [], ◌∷◌, Option, Some, None, option_and_then, codes, if◌then◌else◌}
use Rattle.std.specs.Str.{bytes_eq}
use Rattle.serde_json.specs.Data.{Data}
use Rattle.serde_json.specs.Find.{as_str}
use Rattle.qmi_shapes.specs.Form.{Form, unsigned, sequence, field, no_fields}

-- the form is that of the whole of a TLV; the name is a list of characters
pub record Definition : Type 0 where
  pub name : Option (List ℕ)
  pub id : Option ℕ
  pub form : Form

-- what each name stands for
abbrev pub Names : Type 0
Names = List ℕ → Option Definition

-- definitions, the last one first: it takes the place of earlier ones of its name
abbrev pub named_by : List (List ℕ × Definition) → Names
named_by [] name = None
named_by (first ∷ earlier) name = if bytes_eq first.0 name then Some first.1 else named_by earlier name

-- the one definition that is there from the start: the TLV in which each answer tells its result
abbrev pub operation_result : Definition
operation_result = record {
  name = Some (codes "Result");
  id = Some 2;
  form = sequence (field (codes "Error Status") (unsigned 2) (field (codes "Error Code") (unsigned 2) no_fields));
}

abbrev pub first_definitions : List (List ℕ × Definition)
first_definitions = (codes "Operation Result", operation_result) ∷ []

-- the definition that the value of a `common-ref` names
abbrev pub referred : Names → Data → Option Definition
referred names reference = option_and_then names (as_str reference)
