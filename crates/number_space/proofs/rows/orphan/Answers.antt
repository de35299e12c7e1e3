use Rattle.std.proofs.Common.{◌==◌, ◌+◌, length, drop, None, ap, sym, refl, ◌∙◌, arith, ℕ, List}
use Rattle.std.proofs.lemmas.List.{drop-set-lt}
use Rattle.number_space.specs.declared.space.Row.{Row}
use Rattle.number_space.specs.Chain.{first_key}
use Rattle.number_space.specs.Index.{on_row}
use Rattle.number_space.specs.Table.{settled_where}
use Rattle.number_space.proofs.InUse.{map_front-none, map_front-all, map_front-same, length-map_front}
use Rattle.number_space.proofs.Walks.{none_left, walk_at, entry_is}
use Rattle.number_space.proofs.rows.orphan.Goals as goal

pub loop-init : goal.loop-init
loop-init g c = record { all = c.len-end.ensures; at = c.first-at.ensures; entries = sym (map_front-none (on_row (settled_where (λ r. c.args.conn == r.conn))) c.args.rows.now.entries); capacity = refl }

pub returns-in_default-clause-entries : goal.returns-in_default-clause-entries
returns-in_default-clause-entries g c = absurd (none_left c.loop.rows.entries c.loop.counter (omega (arith, c.loop.invariant.all, ap length c.loop.invariant.entries, length-map_front (on_row (settled_where (λ r. c.args.conn == r.conn))) c.loop.counter c.args.rows.now.entries)) (sym c.loop.invariant.at ∙ c.in_default.is))

pub at-row-requires : goal.at-row-requires
at-row-requires g c = record { place = c.loop.counter; there = (walk_at c.loop.rows.entries c.loop.counter c.in-Some.key (omega (arith, c.loop.invariant.all, ap length c.loop.invariant.entries, length-map_front (on_row (settled_where (λ r. c.args.conn == r.conn))) c.loop.counter c.args.rows.now.entries)) (sym c.loop.invariant.at ∙ c.in-Some.is)) }

pub set-requires : goal.set-requires
set-requires g c = record { place = c.loop.counter; there = (walk_at c.loop.rows.entries c.loop.counter c.in-Some.key (omega (arith, c.loop.invariant.all, ap length c.loop.invariant.entries, length-map_front (on_row (settled_where (λ r. c.args.conn == r.conn))) c.loop.counter c.args.rows.now.entries)) (sym c.loop.invariant.at ∙ c.in-Some.is)) }

pub loop-preserved : goal.loop-preserved
loop-preserved g c = record {
  all = c.loop.invariant.all;
  at =
      c.at-row.ensures.after c.loop.counter (walk_at c.loop.rows.entries c.loop.counter c.in-Some.key (omega (arith, c.loop.invariant.all, ap length c.loop.invariant.entries, length-map_front (on_row (settled_where (λ r. c.args.conn == r.conn))) c.loop.counter c.args.rows.now.entries)) (sym c.loop.invariant.at ∙ c.in-Some.is))
      ∙ ap (first_key None) (sym (drop-set-lt (c.loop.counter + 1) c.loop.rows.entries c.loop.counter _ (omega arith)))
      ∙ ap (λ (l : List (ℕ × Row g.row.T.Denot)). first_key None (drop (c.loop.counter + 1) l)) (sym (c.set.ensures.entries c.loop.counter (walk_at c.loop.rows.entries c.loop.counter c.in-Some.key (omega (arith, c.loop.invariant.all, ap length c.loop.invariant.entries, length-map_front (on_row (settled_where (λ r. c.args.conn == r.conn))) c.loop.counter c.args.rows.now.entries)) (sym c.loop.invariant.at ∙ c.in-Some.is))));
  entries =
      c.set.ensures.entries c.loop.counter (walk_at c.loop.rows.entries c.loop.counter c.in-Some.key (omega (arith, c.loop.invariant.all, ap length c.loop.invariant.entries, length-map_front (on_row (settled_where (λ r. c.args.conn == r.conn))) c.loop.counter c.args.rows.now.entries)) (sym c.loop.invariant.at ∙ c.in-Some.is))
      ∙ map_front-same (on_row (settled_where (λ r. c.args.conn == r.conn))) c.loop.counter c.args.rows.now.entries c.loop.rows.entries (c.in-Some.key, c.at-row.result.0) (omega (arith, c.loop.invariant.all)) c.loop.invariant.entries
      (entry_is c.loop.rows.entries c.loop.counter c.in-Some.key c.at-row.result.0 (walk_at c.loop.rows.entries c.loop.counter c.in-Some.key (omega (arith, c.loop.invariant.all, ap length c.loop.invariant.entries, length-map_front (on_row (settled_where (λ r. c.args.conn == r.conn))) c.loop.counter c.args.rows.now.entries)) (sym c.loop.invariant.at ∙ c.in-Some.is)) (c.at-row.ensures.value c.loop.counter (c.in-Some.key, c.at-row.result.0) (walk_at c.loop.rows.entries c.loop.counter c.in-Some.key (omega (arith, c.loop.invariant.all, ap length c.loop.invariant.entries, length-map_front (on_row (settled_where (λ r. c.args.conn == r.conn))) c.loop.counter c.args.rows.now.entries)) (sym c.loop.invariant.at ∙ c.in-Some.is))));
  capacity = c.set.ensures.capacity ∙ c.loop.invariant.capacity;
}

pub returns-clause-entries : goal.returns-clause-entries
returns-clause-entries g c = c.loop.invariant.entries ∙ map_front-all (on_row (settled_where (λ r. c.args.conn == r.conn))) c.loop.counter c.args.rows.now.entries (omega (arith, c.loop.invariant.all))
