use Rattle.std.proofs.Common.{◌∙◌}
use Rattle.std.proofs.lemmas.Str.{encodes_same}
use Rattle.sim_mbim.proofs.values.copy.Goals as goal

pub returns : goal.returns
returns c = encodes_same c.in_ok-from_str.field-0 c.args.text.now (c.in_ok-from_str.ensures ∙ c.as_str.ensures)
