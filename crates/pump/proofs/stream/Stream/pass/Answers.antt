use Rattle.std.proofs.Common.{arith}
use Rattle.pump.proofs.Following.{message_is_longer, passes_message}
use Rattle.pump.proofs.stream.Stream.pass.Goals as goal

pub overflow_sub-left-in-Whole : goal.overflow_sub-left-in-Whole
overflow_sub-left-in-Whole c = omega (arith, message_is_longer c.requires c.in-Whole.ensures.next)

pub returns-in-Whole : goal.returns-in-Whole
returns-in-Whole c = passes_message c.requires c.in-Whole.ensures.next
