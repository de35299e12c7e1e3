use Rattle.std.proofs.Common.{rules}
use Rattle.message_tables.proofs.Depths.{depth_item}
use Rattle.message_tables.proofs.definitions.Definitions.+shapes.Goals as goal

pub fields-field-requires : goal.fields-field-requires
fields-field-requires t c =
    let falls = depth_item c.args.objects.now c.loop-object.object-index c.object-item.result c.loop-object-test.true c.object-item.is in
    search rules
