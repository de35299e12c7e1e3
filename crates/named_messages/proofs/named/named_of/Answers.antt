use Rattle.std.proofs.Common.{map}
use Rattle.serde_json.specs.View.{view}
use Rattle.named_messages.proofs.Chosen.{list_of-items}
use Rattle.named_messages.proofs.named.named_of.Goals as goal

pub returns-in-Some : goal.returns-in-Some
returns-in-Some c = rw (← c.in-Some.ensures, list_of-items (map view c.in-Some.objects.now)) c.message_named.ensures
