use Rattle.std.proofs.Common.{◌≡◌, drop}
use Rattle.serde_json.specs.View.{items_view}
use Rattle.message_tables.specs.Objects.{Described, first_described}
use Rattle.message_tables.specs.State.{StandsFor}
use Rattle.message_tables.specs.Tables.{described_by}
use Rattle.message_tables.proofs.read.describe.Given as goal

abbrev pub invariant-loop-object : goal.invariant-loop-object
invariant-loop-object l =
    (so_far : Described) × StandsFor l.described so_far
    × (described_by 0 first_described (items_view l.objects) ≡ described_by l.number so_far (items_view (drop l.object-index l.objects)))
