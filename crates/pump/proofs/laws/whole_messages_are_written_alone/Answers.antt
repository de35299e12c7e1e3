use Rattle.pump.proofs.Alone.{messages_are_alone}
use Rattle.pump.proofs.laws.whole_messages_are_written_alone.Goals as goal

pub returns : goal.returns
returns c = messages_are_alone
