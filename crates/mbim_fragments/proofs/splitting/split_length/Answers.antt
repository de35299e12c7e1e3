use Rattle.std.proofs.Common.{ℕ, ◌+◌, ◌*◌, sym, ◌∙◌, ap}
use Rattle.mbim_fragments.specs.Splitting.{split_size}
use Rattle.mbim_fragments.proofs.Sizes.{length-split}
use Rattle.mbim_fragments.proofs.splitting.split_length.Goals as goal

pub returns-clause-length : goal.returns-clause-length
returns-clause-length c = λ kind number body is.
    length-split kind number c.args.max body c.requires.least ∙ ap (split_size c.args.max) is ∙ ap (λ (n : ℕ). c.args.body_length + 20 * n) (sym c.part_count.ensures)
