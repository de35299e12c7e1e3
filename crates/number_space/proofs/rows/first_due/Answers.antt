use Rattle.std.proofs.Common.{sym, ◌∙◌, arith}
use Rattle.number_space.specs.Table.{is_due}
use Rattle.number_space.proofs.Walks.{none_left, walk_at, first_at, none_at, none_all}
use Rattle.number_space.proofs.rows.first_due.Goals as goal

pub loop-init : goal.loop-init
loop-init g c = record { all = c.len-end.ensures; at = c.first-at.ensures; none = λ k d low high. absurd (omega arith) }

pub returns-in_default-clause-none : goal.returns-in_default-clause-none
returns-in_default-clause-none g c = λ is. absurd (none_left c.args.rows.now.entries c.loop.counter (omega (arith, c.loop.invariant.all)) (sym c.loop.invariant.at ∙ c.in_default.is))

pub at-row-requires : goal.at-row-requires
at-row-requires g c = record { place = c.loop.counter; there = walk_at c.args.rows.now.entries c.loop.counter c.in-Some.key (omega (arith, c.loop.invariant.all)) (sym c.loop.invariant.at ∙ c.in-Some.is) }

pub returns-then-is_due-clause-due : goal.returns-then-is_due-clause-due
returns-then-is_due-clause-due g c = record {
  place = c.loop.counter;
  there = (walk_at c.args.rows.now.entries c.loop.counter c.in-Some.key (omega (arith, c.loop.invariant.all)) (sym c.loop.invariant.at ∙ c.in-Some.is));
  due = first_at c.args.rows.now.entries c.loop.counter c.in-Some.key c.at-row.result.0 (walk_at c.args.rows.now.entries c.loop.counter c.in-Some.key (omega (arith, c.loop.invariant.all)) (sym c.loop.invariant.at ∙ c.in-Some.is)) (c.at-row.ensures.value c.loop.counter (c.in-Some.key, c.at-row.result.0) (walk_at c.args.rows.now.entries c.loop.counter c.in-Some.key (omega (arith, c.loop.invariant.all)) (sym c.loop.invariant.at ∙ c.in-Some.is))) (is_due c.args.now) c.loop.invariant.none (sym c.is_due.ensures ∙ c.if-is_due.true);
}

pub loop-preserved : goal.loop-preserved
loop-preserved g c = record {
  all = c.loop.invariant.all;
  at = c.at-row.ensures.after c.loop.counter (walk_at c.args.rows.now.entries c.loop.counter c.in-Some.key (omega (arith, c.loop.invariant.all)) (sym c.loop.invariant.at ∙ c.in-Some.is));
  none = none_at c.args.rows.now.entries c.loop.counter c.in-Some.key c.at-row.result.0 (walk_at c.args.rows.now.entries c.loop.counter c.in-Some.key (omega (arith, c.loop.invariant.all)) (sym c.loop.invariant.at ∙ c.in-Some.is)) (c.at-row.ensures.value c.loop.counter (c.in-Some.key, c.at-row.result.0) (walk_at c.args.rows.now.entries c.loop.counter c.in-Some.key (omega (arith, c.loop.invariant.all)) (sym c.loop.invariant.at ∙ c.in-Some.is))) (is_due c.args.now) c.loop.invariant.none (sym c.is_due.ensures ∙ c.if-is_due.false);
}

pub returns-clause-none : goal.returns-clause-none
returns-clause-none g c = λ is. none_all (is_due c.args.now) c.args.rows.now.entries c.loop.counter (omega (arith, c.loop.invariant.all)) c.loop.invariant.none
