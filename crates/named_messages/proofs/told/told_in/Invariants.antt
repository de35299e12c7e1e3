use Rattle.std.proofs.Common.{◌≡◌, map, drop, fold}
use Rattle.serde_json.specs.View.{view}
use Rattle.message_tables.specs.Definitions.{named_by}
use Rattle.message_tables.specs.View.{messages_in, names_in}
use Rattle.named_messages.specs.Told.{Told, nothing_told, told_with}
use Rattle.named_messages.proofs.told.told_in.Given as goal

abbrev pub invariant-loop-object : goal.invariant-loop-object
invariant-loop-object l =
    (now : Told) × (names_in l.definitions ≡ named_by now.definitions) × (messages_in l.told.items ≡ now.messages)
    × (fold told_with nothing_told (map view l.objects) ≡ fold told_with now (map view (drop l.object-index l.objects)))
