-- How many forms stand inside each other: what falls as a shape is walked.
use Rattle.std.proofs.Common.{ℕ, suc, max}
use Rattle.qmi_shapes.specs.Form.{Form, unsigned, signed, string, array, sequence, Fields, no_fields, field}

abbrev mutual
  pub depth : Form → ℕ
  depth (unsigned bytes) = 1
  depth (signed bytes) = 1
  depth (string prefix) = 1
  depth (array prefix element) = suc (depth element)
  depth (sequence fields) = suc (fields_depth fields)

  pub fields_depth : Fields → ℕ
  fields_depth no_fields = 0
  fields_depth (field name form more) = max (depth form) (fields_depth more)
