use Rattle.std.proofs.Common.{ap, ◌∙◌}
use Rattle.mbim_fields.specs.Value.{text_of}
use Rattle.mbim_fields.proofs.Views.{view-TextOf}
use Rattle.sim_mbim.proofs.values.text.Goals as goal

pub returns : goal.returns
returns c = view-TextOf c.in_ok-copy.field-0 ∙ ap text_of c.in_ok-copy.ensures
