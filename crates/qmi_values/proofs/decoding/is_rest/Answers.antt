use Rattle.std.proofs.lemmas.Bool.{false≢true}
use Rattle.qmi_shapes.specs.declared.shape.Prefix.TheVariants.{Rest}
use Rattle.qmi_shapes.proofs.Views.{view-string}
use Rattle.qmi_values.proofs.decoding.is_rest.Goals as goal

pub returns-in_default : goal.returns-in_default
returns-in_default c = (λ never. absurd (false≢true never), λ is. absurd (c.in_default.not-Str Rest (view-string c.args.shape.now Rest is)))
