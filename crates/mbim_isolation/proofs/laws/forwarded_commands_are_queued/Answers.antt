use Rattle.mbim_isolation.proofs.Queues.{forwarded_commands_are_queued}
use Rattle.mbim_isolation.proofs.laws.forwarded_commands_are_queued.Goals as goal

pub returns : goal.returns
returns c = forwarded_commands_are_queued
