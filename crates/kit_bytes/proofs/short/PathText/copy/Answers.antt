use Rattle.std.proofs.Common.{◌∙◌}
use Rattle.std.proofs.lemmas.Str.{encodes_same}
use Rattle.kit_bytes.proofs.short.PathText.copy.Goals as goal

pub returns : goal.returns
returns c = rw (← c.self.view_is) (encodes_same _ _ (c.in_ok-text.ensures ∙ c.as_str.ensures))
