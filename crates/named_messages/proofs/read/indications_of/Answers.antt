use Rattle.std.proofs.Common.{List, map, Ok, sym, ap}
use Rattle.serde_json.specs.View.{view}
use Rattle.message_tables.specs.Messages.{MessageForm}
use Rattle.named_messages.proofs.Chosen.{list_of-items}
use Rattle.named_messages.proofs.read.indications_of.Goals as goal

pub returns : goal.returns
returns c = rw (← c.in-Some.ensures, list_of-items (map view c.in-Some.objects.now)) (ap (λ (l : List MessageForm). Ok l) (sym c.in_ok-told.ensures))
