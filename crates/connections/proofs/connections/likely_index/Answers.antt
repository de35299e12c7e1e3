use Rattle.std.proofs.Common.{◌∙◌, sym}
use Rattle.connections.proofs.Named.{named_in_order}
use Rattle.connections.proofs.connections.likely_index.Goals as goal

pub returns-then-name : goal.returns-then-name
returns-then-name g c =
    sym (named_in_order c.args.name c.args.connections.now _ c.requires c.index-connections-place.result c.if-place-connections.true c.index-connections-place.is (c.if-name.true ∙ c.name-then-place-connections.ensures))
