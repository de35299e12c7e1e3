use Rattle.std.proofs.Common.{ap}
use Rattle.message_tables.specs.View.{messages_in}
use Rattle.message_tables.proofs.objects.Described.open.Goals as goal

pub returns : goal.returns
returns c = record { names = λ i name. c.in_ok-open.ensures name i; messages = ap messages_in c.new.ensures }
