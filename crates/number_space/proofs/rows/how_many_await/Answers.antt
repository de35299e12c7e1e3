use Rattle.std.proofs.Common.{ℕ, ◌+◌, get_or, ◌≤◌, Bool, true, false, refl, ap, sym, ◌∙◌, ◌&&◌, ◌==◌, if◌then◌else◌, length, filter, take_all, arith}
use Rattle.std.proofs.lemmas.List.{length-map}
use Rattle.std.proofs.lemmas.List.Filters.{length-filter_more}
use Rattle.number_space.specs.Chain.{values}
use Rattle.number_space.proofs.Walks.{none_left, walk_at, row_read}
use Rattle.number_space.proofs.rows.how_many_await.Goals as goal

one_at_most : (b : Bool) → (if b then 1 else 0) ≤ 1
one_at_most true = omega arith
one_at_most false = omega arith

pub loop-init : goal.loop-init
loop-init g c = record { all = c.len-end.ensures; at = c.first-at.ensures; counted = refl; few = omega arith }

pub returns-in_default : goal.returns-in_default
returns-in_default g c = absurd (none_left c.args.rows.now.entries c.loop.counter (omega (arith, c.loop.invariant.all)) (sym c.loop.invariant.at ∙ c.in_default.is))

pub at-row-requires : goal.at-row-requires
at-row-requires g c = record { place = c.loop.counter; there = walk_at c.args.rows.now.entries c.loop.counter c.in-Some.key (omega (arith, c.loop.invariant.all)) (sym c.loop.invariant.at ∙ c.in-Some.is) }

pub with_one-count-requires : goal.with_one-count-requires
with_one-count-requires g c = omega (arith, c.loop.invariant.few, c.loop.invariant.all, c.len-end.type_inv)

pub loop-preserved : goal.loop-preserved
loop-preserved g c =
    let there = walk_at c.args.rows.now.entries c.loop.counter c.in-Some.key (omega (arith, c.loop.invariant.all)) (sym c.loop.invariant.at ∙ c.in-Some.is) in
    let read = row_read c.args.rows.now.entries c.loop.counter c.in-Some.key c.at-row.result.0 there (c.at-row.ensures.value c.loop.counter (c.in-Some.key, c.at-row.result.0) there) in
    let rows = values c.args.rows.now.entries in
    let more = length-filter_more (λ r. r.pending && (r.conn == c.args.conn)) rows c.loop.counter c.at-row.result.0 (omega (arith, c.loop.invariant.all, length-map c.args.rows.now.entries (λ e. e.1))) in
    record {
      all = c.loop.invariant.all;
      at = c.at-row.ensures.after c.loop.counter there;
      counted =
          c.with_one-count.ensures
          ∙ ap (λ (b : Bool). c.loop.count + (if b then 1 else 0)) (c.is_awaited.ensures ∙ ap (λ r. r.pending && (r.conn == c.args.conn)) read)
          ∙ ap (λ (n : ℕ). n + (if (let r = get_or rows c.loop.counter c.at-row.result.0 in r.pending && (r.conn == c.args.conn)) then 1 else 0)) c.loop.invariant.counted
          ∙ sym more;
      few = omega (arith, c.with_one-count.ensures, one_at_most c.is_awaited.result, c.loop.invariant.few);
    }

pub returns : goal.returns
returns g c = c.loop.invariant.counted ∙ ap (λ l. length (filter (λ r. r.pending && (r.conn == c.args.conn)) l)) (take_all c.loop.counter (values c.args.rows.now.entries) (omega (arith, c.loop.invariant.all, length-map c.args.rows.now.entries (λ e. e.1))))
