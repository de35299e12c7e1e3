use Rattle.std.proofs.Common.{◌≡◌, ◌<◌, ◌∙◌, sym, length, true, false, arith, rules}
use Rattle.std.specs.List.Sorted.{IsPartitionPoint}
use Rattle.std.proofs.lemmas.List.Sorted.{IsPartitionPoint-from_clause}
use Rattle.proxy_history.specs.ClientIds.{is_of}
use Rattle.holders.specs.Grants.{is_before}
use Rattle.holders.proofs.Places.{halved, place_none, place_other}
use Rattle.holders.proofs.by_id.find.Goals as goal

pub returns-then-place-rows-clause-absent : goal.returns-then-place-rows-clause-absent
returns-then-place-rows-clause-absent c =
    let point : IsPartitionPoint (λ g. is_before c.args.service c.args.cid g ≡ true) (λ g. is_before c.args.service c.args.cid g ≡ false) c.args.rows.now c.partition_point-place.result =
    IsPartitionPoint-from_clause (is_before c.args.service c.args.cid) c.args.rows.now c.partition_point-place.result c.partition_point-place.ensures.partitioned (halved c.args.service c.args.cid c.args.rows.now c.requires) (λ a r f' k. search rules)
    in place_none c.args.service c.args.cid c.partition_point-place.result c.args.rows.now c.if-place-rows.true point.0

pub returns-else-is_of-clause-absent : goal.returns-else-is_of-clause-absent
returns-else-is_of-clause-absent c =
    let point : IsPartitionPoint (λ g. is_before c.args.service c.args.cid g ≡ true) (λ g. is_before c.args.service c.args.cid g ≡ false) c.args.rows.now c.partition_point-place.result =
    IsPartitionPoint-from_clause (is_before c.args.service c.args.cid) c.args.rows.now c.partition_point-place.result c.partition_point-place.ensures.partitioned (halved c.args.service c.args.cid c.args.rows.now c.requires) (λ a r f' k. search rules)
    in
    let within : c.partition_point-place.result < length c.args.rows.now = omega (arith, c.partition_point-place.ensures.bound, c.if-place-rows.false) in
    let other : is_of c.args.service c.args.cid c.index-rows-place.result ≡ false = sym c.is_of.ensures ∙ c.if-is_of.false in
    place_other c.args.service c.args.cid c.partition_point-place.result c.args.rows.now c.index-rows-place.result c.requires within c.index-rows-place.is other point.0 point.1
