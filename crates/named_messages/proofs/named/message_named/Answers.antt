use Rattle.std.proofs.Common.{◌∙◌, sym}
use Rattle.named_messages.proofs.Chosen.{missing, place_within}
use Rattle.named_messages.proofs.named.message_named.Goals as goal

pub message_at-requires : goal.message_at-requires
message_at-requires c =
    let first = sym c.in-Some.is ∙ c.first_named.ensures in record { first = first; within = place_within c.args.name.now c.args.objects.now c.in-Some.place first }

pub returns-in-None : goal.returns-in-None
returns-in-None c = missing c.args.name.now c.args.objects.now (sym c.in-None.is ∙ c.first_named.ensures)
