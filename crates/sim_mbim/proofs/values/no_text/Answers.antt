use Rattle.std.proofs.Common.{ap, ◌∙◌}
use Rattle.mbim_fields.specs.Value.{text_of}
use Rattle.mbim_fields.proofs.Views.{view-TextOf}
use Rattle.sim_mbim.proofs.values.no_text.Goals as goal

pub returns : goal.returns
returns c = view-TextOf c.empty.result ∙ ap text_of c.empty.ensures
