use Rattle.std.proofs.Common.{sym, ◌∙◌, arith}
use Rattle.mbim_fragments.proofs.Sizes.{split_is_unsplit}
use Rattle.mbim_fragments.proofs.unsplit.unsplit_head.Goals as goal

pub returns-clause-head : goal.returns-clause-head
returns-clause-head c = c.head_before.ensures ∙ sym (split_is_unsplit c.args.kind c.args.number c.args.max c.args.body.now c.requires.least (omega (arith, c.if-max-body.false)))
