use Rattle.std.proofs.Common.{◌≡◌, ◌<◌, ◌==◌, ◌∙◌, sym, length, true, false, arith, rules}
use Rattle.std.specs.List.Sorted.{IsPartitionPoint}
use Rattle.std.proofs.lemmas.List.Sorted.{IsPartitionPoint-from_clause}
use Rattle.std.proofs.lemmas.Bool.{eq-eqb, ne_eqb}
use Rattle.many_seats.proofs.Order.{is_before, halved, found_here, found_end, found_other}
use Rattle.many_seats.proofs.seats.index_of.Goals as goal

pub returns-then-place-present-clause-place : goal.returns-then-place-present-clause-place
returns-then-place-present-clause-place c =
    let point : IsPartitionPoint (λ k. is_before c.args.conn k ≡ true) (λ k. is_before c.args.conn k ≡ false) c.args.present.now c.partition_point-place.result =
    IsPartitionPoint-from_clause (is_before c.args.conn) c.args.present.now c.partition_point-place.result c.partition_point-place.ensures.partitioned (halved c.args.conn c.args.present.now c.requires) (λ a r f' k. search rules)
    in found_end c.args.conn c.args.present.now c.partition_point-place.result point.0 c.if-place-present.true

pub returns-then-conn-clause-place : goal.returns-then-conn-clause-place
returns-then-conn-clause-place c =
    let point : IsPartitionPoint (λ k. is_before c.args.conn k ≡ true) (λ k. is_before c.args.conn k ≡ false) c.args.present.now c.partition_point-place.result =
    IsPartitionPoint-from_clause (is_before c.args.conn) c.args.present.now c.partition_point-place.result c.partition_point-place.ensures.partitioned (halved c.args.conn c.args.present.now c.requires) (λ a r f' k. search rules)
    in
    let seat = c.index-present-place.result in
    let within : c.partition_point-place.result < length c.args.present.now = omega (arith, c.partition_point-place.ensures.bound, c.if-place-present.false) in
    found_here c.args.conn c.args.present.now c.partition_point-place.result point.0 seat within c.index-present-place.is (eq-eqb seat.conn c.args.conn (sym c.conn.ensures ∙ c.if-conn.true))

pub returns-else-conn-clause-place : goal.returns-else-conn-clause-place
returns-else-conn-clause-place c =
    let point : IsPartitionPoint (λ k. is_before c.args.conn k ≡ true) (λ k. is_before c.args.conn k ≡ false) c.args.present.now c.partition_point-place.result =
    IsPartitionPoint-from_clause (is_before c.args.conn) c.args.present.now c.partition_point-place.result c.partition_point-place.ensures.partitioned (halved c.args.conn c.args.present.now c.requires) (λ a r f' k. search rules)
    in
    let seat = c.index-present-place.result in
    let within : c.partition_point-place.result < length c.args.present.now = omega (arith, c.partition_point-place.ensures.bound, c.if-place-present.false) in
    let other : (seat.conn == c.args.conn) ≡ false = ne_eqb seat.conn c.args.conn (λ e. c.if-conn.false (c.conn.ensures ∙ e)) in
    found_other c.args.conn c.args.present.now c.partition_point-place.result point.0 seat within c.index-present-place.is other point.1 c.requires
