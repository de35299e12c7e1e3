use Rattle.std.proofs.Common.{◌≡◌, ◌<◌, true, false, nat_lt, subst, sym, rules}
use Rattle.std.specs.List.Sorted.{IsPartitionPoint}
use Rattle.std.proofs.lemmas.List.Sorted.{IsPartitionPoint-from_clause}
use Rattle.kit_bytes.specs.Sorted.{IsInOrder}
use Rattle.number_space.specs.Index.{Listed}
use Rattle.number_space.proofs.Beside.{numbers_halved}
use Rattle.number_space.proofs.numbers.Numbers.count_below.Goals as goal

pub returns-clause-below : goal.returns-clause-below
returns-clause-below c =
    let rising : IsInOrder (λ m n. m < n) c.self.inside.items.items = subst (λ (l : Listed). IsInOrder (λ m n. m < n) l.items) (sym c.self.view_is) c.requires in
    let point : IsPartitionPoint (λ n. nat_lt n c.args.number ≡ true) (λ n. nat_lt n c.args.number ≡ false) c.self.inside.items.items c.partition_point.result =
    IsPartitionPoint-from_clause (λ n. nat_lt n c.args.number) c.self.inside.items.items c.partition_point.result c.partition_point.ensures.partitioned (numbers_halved c.args.number c.self.inside.items.items rising) (λ a r f' k. search rules)
    in subst (λ (l : Listed). IsPartitionPoint (λ n. nat_lt n c.args.number ≡ true) (λ n. nat_lt n c.args.number ≡ false) l.items c.partition_point.result) c.self.view_is point
