use Rattle.std.proofs.Common.{arith, subst, ℕ, Any, take, sym, ◌∙◌}
use Rattle.std.proofs.lemmas.List.{length-map}
use Rattle.number_space.specs.Chain.{values}
use Rattle.number_space.specs.Table.{IsPendingUntil}
use Rattle.number_space.proofs.InUse.{none_due_more, none_due_all, least_more, any_on, any_all}
use Rattle.number_space.proofs.Walks.{none_left, walk_at, row_read}
use Rattle.number_space.proofs.rows.earliest_deadline.Goals as goal
use Rattle.number_space.proofs.rows.earliest_deadline.Goals.{then-row, else-row}

pub loop-init : goal.loop-init
loop-init g c = record { all = c.len-end.ensures; at = c.first-at.ensures; none_due = λ k d within. absurd (omega arith); least = λ below. absurd (omega arith) }

pub returns-in_default-clause-none_due : goal.returns-in_default-clause-none_due
returns-in_default-clause-none_due g c = absurd (none_left c.args.rows.now.entries c.loop.counter (omega (arith, c.loop.invariant.all)) (sym c.loop.invariant.at ∙ c.in_default.is))

pub returns-in_default-clause-least : goal.returns-in_default-clause-least
returns-in_default-clause-least g c = absurd (none_left c.args.rows.now.entries c.loop.counter (omega (arith, c.loop.invariant.all)) (sym c.loop.invariant.at ∙ c.in_default.is))

pub at-row-requires : goal.at-row-requires
at-row-requires g c = record { place = c.loop.counter; there = walk_at c.args.rows.now.entries c.loop.counter c.in-Some.key (omega (arith, c.loop.invariant.all)) (sym c.loop.invariant.at ∙ c.in-Some.is) }

pub loop-preserved : goal.loop-preserved
loop-preserved g c = record {
  all = c.loop.invariant.all;
  at = c.at-row.ensures.after c.loop.counter (walk_at c.args.rows.now.entries c.loop.counter c.in-Some.key (omega (arith, c.loop.invariant.all)) (sym c.loop.invariant.at ∙ c.in-Some.is));
  none_due =
      elim c.if-row.branch [
        | then-row w ↦ none_due_more c.loop.earliest c.if-row.earliest (values c.args.rows.now.entries) c.loop.counter c.at-row.result.0 (omega (arith, c.loop.invariant.all, length-map c.args.rows.now.entries (λ e. e.1))) (row_read c.args.rows.now.entries c.loop.counter c.in-Some.key c.at-row.result.0 (walk_at c.args.rows.now.entries c.loop.counter c.in-Some.key (omega (arith, c.loop.invariant.all)) (sym c.loop.invariant.at ∙ c.in-Some.is)) (c.at-row.ensures.value c.loop.counter (c.in-Some.key, c.at-row.result.0) (walk_at c.args.rows.now.entries c.loop.counter c.in-Some.key (omega (arith, c.loop.invariant.all)) (sym c.loop.invariant.at ∙ c.in-Some.is)))) c.loop.invariant.none_due (omega arith) (λ pending. omega arith)
        | else-row w ↦ none_due_more c.loop.earliest c.if-row.earliest (values c.args.rows.now.entries) c.loop.counter c.at-row.result.0 (omega (arith, c.loop.invariant.all, length-map c.args.rows.now.entries (λ e. e.1))) (row_read c.args.rows.now.entries c.loop.counter c.in-Some.key c.at-row.result.0 (walk_at c.args.rows.now.entries c.loop.counter c.in-Some.key (omega (arith, c.loop.invariant.all)) (sym c.loop.invariant.at ∙ c.in-Some.is)) (c.at-row.ensures.value c.loop.counter (c.in-Some.key, c.at-row.result.0) (walk_at c.args.rows.now.entries c.loop.counter c.in-Some.key (omega (arith, c.loop.invariant.all)) (sym c.loop.invariant.at ∙ c.in-Some.is)))) c.loop.invariant.none_due (omega arith) (λ pending. absurd (cc))
      ];
  least =
      elim c.if-row.branch [
        | then-row w ↦ least_more c.loop.earliest c.if-row.earliest 18446744073709551615 (values c.args.rows.now.entries) c.loop.counter c.at-row.result.0 (omega (arith, c.loop.invariant.all, length-map c.args.rows.now.entries (λ e. e.1))) (row_read c.args.rows.now.entries c.loop.counter c.in-Some.key c.at-row.result.0 (walk_at c.args.rows.now.entries c.loop.counter c.in-Some.key (omega (arith, c.loop.invariant.all)) (sym c.loop.invariant.at ∙ c.in-Some.is)) (c.at-row.ensures.value c.loop.counter (c.in-Some.key, c.at-row.result.0) (walk_at c.args.rows.now.entries c.loop.counter c.in-Some.key (omega (arith, c.loop.invariant.all)) (sym c.loop.invariant.at ∙ c.in-Some.is)))) w.if-row.true (omega arith) c.loop.invariant.least
        | else-row w ↦ λ below. any_on (IsPendingUntil c.if-row.earliest) (values c.args.rows.now.entries) c.loop.counter c.at-row.result.0 (omega (arith, c.loop.invariant.all, length-map c.args.rows.now.entries (λ e. e.1))) (row_read c.args.rows.now.entries c.loop.counter c.in-Some.key c.at-row.result.0 (walk_at c.args.rows.now.entries c.loop.counter c.in-Some.key (omega (arith, c.loop.invariant.all)) (sym c.loop.invariant.at ∙ c.in-Some.is)) (c.at-row.ensures.value c.loop.counter (c.in-Some.key, c.at-row.result.0) (walk_at c.args.rows.now.entries c.loop.counter c.in-Some.key (omega (arith, c.loop.invariant.all)) (sym c.loop.invariant.at ∙ c.in-Some.is)))) (subst (λ (t : ℕ). Any (IsPendingUntil t) (take c.loop.counter (values c.args.rows.now.entries))) (sym w.earliest-is) (c.loop.invariant.least (omega arith)))
      ];
}

pub returns-clause-none_due : goal.returns-clause-none_due
returns-clause-none_due g c = none_due_all c.loop.earliest (values c.args.rows.now.entries) c.loop.counter (omega (arith, c.loop.invariant.all, length-map c.args.rows.now.entries (λ e. e.1))) c.loop.invariant.none_due

pub returns-clause-least : goal.returns-clause-least
returns-clause-least g c = λ below. any_all (IsPendingUntil c.loop.earliest) (values c.args.rows.now.entries) c.loop.counter (omega (arith, c.loop.invariant.all, length-map c.args.rows.now.entries (λ e. e.1))) (c.loop.invariant.least below)
