use Rattle.std.proofs.Common.{◌≡◌, ◌<◌, ◌==◌, ◌∙◌, sym, length, true, false, arith, rules}
use Rattle.std.specs.List.Sorted.{IsPartitionPoint}
use Rattle.std.proofs.lemmas.List.Sorted.{IsPartitionPoint-from_clause}
use Rattle.std.proofs.lemmas.Bool.{ne_eqb}
use Rattle.connections.proofs.Named.{is_before, halved, named_here, named_end, named_other}
use Rattle.connections.proofs.connections.index_of.Goals as goal

pub returns-then-place-connections : goal.returns-then-place-connections
returns-then-place-connections g c =
    let point : IsPartitionPoint (λ k. is_before c.args.name k ≡ true) (λ k. is_before c.args.name k ≡ false) c.args.connections.now c.partition_point-place.result =
    IsPartitionPoint-from_clause (is_before c.args.name) c.args.connections.now c.partition_point-place.result c.partition_point-place.ensures.partitioned (halved c.args.name c.args.connections.now c.requires) (λ a r f' k. search rules)
    in sym (named_end c.args.name c.args.connections.now c.partition_point-place.result point.0 c.if-place-connections.true)

pub returns-then-name : goal.returns-then-name
returns-then-name g c =
    let point : IsPartitionPoint (λ k. is_before c.args.name k ≡ true) (λ k. is_before c.args.name k ≡ false) c.args.connections.now c.partition_point-place.result =
    IsPartitionPoint-from_clause (is_before c.args.name) c.args.connections.now c.partition_point-place.result c.partition_point-place.ensures.partitioned (halved c.args.name c.args.connections.now c.requires) (λ a r f' k. search rules)
    in
    let within : c.partition_point-place.result < length c.args.connections.now = omega (arith, c.partition_point-place.ensures.bound, c.if-place-connections.false) in
    sym (named_here c.args.name c.args.connections.now c.partition_point-place.result point.0 c.index-connections-place.result within c.index-connections-place.is (c.if-name.true ∙ c.name.ensures))

pub returns-else-name : goal.returns-else-name
returns-else-name g c =
    let point : IsPartitionPoint (λ k. is_before c.args.name k ≡ true) (λ k. is_before c.args.name k ≡ false) c.args.connections.now c.partition_point-place.result =
    IsPartitionPoint-from_clause (is_before c.args.name) c.args.connections.now c.partition_point-place.result c.partition_point-place.ensures.partitioned (halved c.args.name c.args.connections.now c.requires) (λ a r f' k. search rules)
    in
    let within : c.partition_point-place.result < length c.args.connections.now = omega (arith, c.partition_point-place.ensures.bound, c.if-place-connections.false) in
    let other : (c.args.name == c.index-connections-place.result.name) ≡ false = ne_eqb c.args.name c.index-connections-place.result.name (λ e. c.if-name.false (e ∙ sym c.name.ensures)) in
    sym (named_other c.args.name c.args.connections.now c.partition_point-place.result point.0 c.index-connections-place.result within c.index-connections-place.is other point.1 c.requires)
