use Rattle.std.proofs.Common.{◌≡◌, true, false, arith, rules}
use Rattle.std.specs.List.Sorted.{IsPartitionPoint}
use Rattle.std.specs.Ordering.{is_lt}
use Rattle.std.proofs.lemmas.List.Sorted.{IsPartitionPoint-from_clause}
use Rattle.kit_bytes.specs.Subscriptions.{pair_cmp}
use Rattle.subscriptions.proofs.Counting.{halved}
use Rattle.subscriptions.proofs.counts.place_of.Goals as goal

pub returns : goal.returns
returns c =
    let point : IsPartitionPoint (λ e. is_lt (pair_cmp e.pair c.args.pair.now) ≡ true) (λ e. is_lt (pair_cmp e.pair c.args.pair.now) ≡ false) c.args.counts.now c.partition_point.result =
    IsPartitionPoint-from_clause (λ e. is_lt (pair_cmp e.pair c.args.pair.now)) c.args.counts.now c.partition_point.result c.partition_point.ensures.partitioned (halved c.args.pair.now c.args.counts.now c.requires) (λ a r f' k. search rules)
    in record { within = omega (arith, c.partition_point.ensures.bound); before = point.0; behind = point.1 }
