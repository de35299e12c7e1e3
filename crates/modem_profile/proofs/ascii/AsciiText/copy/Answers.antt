use Rattle.std.proofs.Common.{◌∙◌}
use Rattle.std.proofs.lemmas.Str.{encodes_same}
use Rattle.modem_profile.proofs.ascii.AsciiText.copy.Goals as goal

pub invariant_of-result : goal.invariant_of-result
invariant_of-result c = rw (encodes_same c.in_ok-text.text c.self.inside.text (c.in_ok-text.ensures ∙ c.as_str.ensures)) c.self.invariant

pub returns : goal.returns
returns c = encodes_same c.in_ok-text.text c.self.inside.text (c.in_ok-text.ensures ∙ c.as_str.ensures) ∙ c.self.view_is
