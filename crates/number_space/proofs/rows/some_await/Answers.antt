use Rattle.std.proofs.Common.{sym, ◌∙◌, ◌&&◌, ◌==◌, arith}
use Rattle.number_space.proofs.Walks.{none_left, walk_at, any_at, none_at, any_none}
use Rattle.number_space.proofs.rows.some_await.Goals as goal

pub loop-init : goal.loop-init
loop-init g c = record { all = c.len-end.ensures; at = c.first-at.ensures; none = λ k d low high. absurd (omega arith) }

pub returns-in_default : goal.returns-in_default
returns-in_default g c = absurd (none_left c.args.rows.now.entries c.loop.counter (omega (arith, c.loop.invariant.all)) (sym c.loop.invariant.at ∙ c.in_default.is))

pub at-row-requires : goal.at-row-requires
at-row-requires g c = record { place = c.loop.counter; there = walk_at c.args.rows.now.entries c.loop.counter c.in-Some.key (omega (arith, c.loop.invariant.all)) (sym c.loop.invariant.at ∙ c.in-Some.is) }

pub returns-then-is_awaited : goal.returns-then-is_awaited
returns-then-is_awaited g c = sym (any_at c.args.rows.now.entries c.loop.counter c.in-Some.key c.at-row.result.0 (walk_at c.args.rows.now.entries c.loop.counter c.in-Some.key (omega (arith, c.loop.invariant.all)) (sym c.loop.invariant.at ∙ c.in-Some.is)) (c.at-row.ensures.value c.loop.counter (c.in-Some.key, c.at-row.result.0) (walk_at c.args.rows.now.entries c.loop.counter c.in-Some.key (omega (arith, c.loop.invariant.all)) (sym c.loop.invariant.at ∙ c.in-Some.is))) (λ r. r.pending && (r.conn == c.args.conn)) (sym c.is_awaited.ensures ∙ c.if-is_awaited.true))

pub loop-preserved : goal.loop-preserved
loop-preserved g c = record {
  all = c.loop.invariant.all;
  at = c.at-row.ensures.after c.loop.counter (walk_at c.args.rows.now.entries c.loop.counter c.in-Some.key (omega (arith, c.loop.invariant.all)) (sym c.loop.invariant.at ∙ c.in-Some.is));
  none = none_at c.args.rows.now.entries c.loop.counter c.in-Some.key c.at-row.result.0 (walk_at c.args.rows.now.entries c.loop.counter c.in-Some.key (omega (arith, c.loop.invariant.all)) (sym c.loop.invariant.at ∙ c.in-Some.is)) (c.at-row.ensures.value c.loop.counter (c.in-Some.key, c.at-row.result.0) (walk_at c.args.rows.now.entries c.loop.counter c.in-Some.key (omega (arith, c.loop.invariant.all)) (sym c.loop.invariant.at ∙ c.in-Some.is))) (λ r. r.pending && (r.conn == c.args.conn)) c.loop.invariant.none (sym c.is_awaited.ensures ∙ c.if-is_awaited.false);
}

pub returns : goal.returns
returns g c = sym (any_none (λ r. r.pending && (r.conn == c.args.conn)) c.args.rows.now.entries c.loop.counter (omega (arith, c.loop.invariant.all)) c.loop.invariant.none)
