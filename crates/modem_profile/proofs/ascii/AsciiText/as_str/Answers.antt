use Rattle.std.proofs.Common.{◌∙◌}
use Rattle.std.proofs.lemmas.Str.{encodes-IsAscii}
use Rattle.modem_profile.proofs.ascii.AsciiText.as_str.Goals as goal

pub returns-clause-same : goal.returns-clause-same
returns-clause-same c = c.as_str.ensures ∙ encodes-IsAscii c.self.inside.text c.self.invariant.ascii ∙ c.self.view_is

pub returns-clause-limit : goal.returns-clause-limit
returns-clause-limit c = rw (← c.self.view_is) c.self.invariant
