use Rattle.std.proofs.Common.{◌≡◌, ◌++◌, length, ap, ◌∙◌, arith, length-append}
use Rattle.mbim_fragments.specs.Splitting.{split_size}
use Rattle.mbim_fragments.proofs.Sizes.{length-split}
use Rattle.mbim_clients.proofs.sending.queue_command.Goals as goal

pub queue-requires : goal.queue-requires
queue-requires c =
    let long : length c.text.result.now ≡ split_size 4096 (length c.args.command.now) = ap length (c.text.ensures ∙ c.split.ensures) ∙ length-split c.number-kind.result c.args.number 4096 c.args.command.now (omega arith) in
    omega (arith, long, c.requires.room)

pub queue_both-requires : goal.queue_both-requires
queue_both-requires c =
    let long : length (c.in-Some.head ++ c.args.command.now) ≡ split_size 4096 (length c.args.command.now) = ap length c.in-Some.ensures.head ∙ length-split c.number-kind.result c.args.number 4096 c.args.command.now (omega arith) in
    omega (arith, long, length-append c.in-Some.head c.args.command.now, c.requires.room)
