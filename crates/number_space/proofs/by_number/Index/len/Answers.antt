use Rattle.std.proofs.Common.{ap, sym, ◌∙◌, length}
use Rattle.number_space.specs.Index.{Indexed}
use Rattle.number_space.proofs.Beside.{length_beside}
use Rattle.number_space.proofs.by_number.Index.len.Goals as goal

pub returns : goal.returns
returns c = c.len.ensures ∙ sym (length_beside c.self.inside.numbers.items c.self.inside.keys.items c.self.invariant) ∙ ap (λ (i : Indexed). length i.entries) c.self.view_is
