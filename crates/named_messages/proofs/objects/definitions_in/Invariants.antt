use Rattle.std.proofs.Common.{◌≡◌, map, drop, fold}
use Rattle.serde_json.specs.View.{view}
use Rattle.message_tables.specs.Definitions.{named_by, first_definitions}
use Rattle.message_tables.specs.View.{names_in}
use Rattle.named_messages.specs.Reading.{Definitions, defined_with}
use Rattle.named_messages.proofs.objects.definitions_in.Given as goal

abbrev pub invariant-loop-object : goal.invariant-loop-object
invariant-loop-object l =
    (earlier : Definitions) × (names_in l.definitions ≡ named_by earlier)
    × (fold defined_with first_definitions (map view l.objects) ≡ fold defined_with earlier (map view (drop l.object-index l.objects)))
