use Rattle.std.proofs.Common.{[], ◌∙◌}
use Rattle.std.proofs.lemmas.Str.{encodes_same}
use Rattle.sim_mbim.proofs.values.empty.Goals as goal

pub returns : goal.returns
returns c = encodes_same c.from.result [] (c.from.ensures ∙ c.new.ensures.bytes)
