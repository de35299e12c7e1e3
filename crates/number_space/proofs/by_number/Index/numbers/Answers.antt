use Rattle.std.proofs.Common.{ap, sym, ◌∙◌}
use Rattle.number_space.specs.Index.{Indexed, numbers_of}
use Rattle.number_space.proofs.Beside.{numbers_beside}
use Rattle.number_space.proofs.by_number.Index.numbers.Goals as goal

pub returns : goal.returns
returns c = sym (numbers_beside c.self.inside.numbers.items c.self.inside.keys.items c.self.invariant) ∙ ap (λ (i : Indexed). numbers_of i.entries) c.self.view_is
