use Rattle.std.proofs.Common.{◌==◌, ◌≡◌, sym, ◌∙◌, ap, arith, subst, refl, List, [], map}
use Rattle.number_space.specs.declared.space.Row.{Row}
use Rattle.number_space.specs.Chain.{values}
use Rattle.number_space.specs.Table.{Table, NoneIsDueBefore, settled_where, orphans}
use Rattle.number_space.proofs.InUse.{none_due_settled}
use Rattle.number_space.proofs.Tables.{with_rows, sound_settled}
use Rattle.number_space.proofs.Index.{index_map, values_map}
use Rattle.number_space.proofs.Waiting.{counted_orphans}
use Rattle.number_space.proofs.space.Space.orphan.Goals as goal

pub invariant_of-self : goal.invariant_of-self
invariant_of-self g c =
    let settled : values c.orphan.new.rows.entries ≡ map (settled_where (λ r. c.args.conn == r.conn)) (values c.self.inside.rows.entries) =
    ap values c.orphan.ensures.entries ∙ values_map c.self.inside.rows.entries (settled_where (λ r. c.args.conn == r.conn))
    in
    record {
      sound = sound_settled (λ r. c.args.conn == r.conn) _ (values c.orphan.new.rows.entries) c.self.invariant.sound settled;
      room = omega (arith, c.self.invariant.room, c.orphan.ensures.capacity);
      index_room = c.self.invariant.index_room;
      indexed = rw c.orphan.ensures.entries (index_map c.self.inside.index.entries c.self.inside.rows.entries (settled_where (λ r. c.args.conn == r.conn)) (λ r. refl) c.self.invariant.indexed);
      none_due = subst (λ (l : List (Row g.row.T.Denot)). NoneIsDueBefore c.self.inside.earliest l) (sym settled) (none_due_settled (λ r. c.args.conn == r.conn) c.self.inside.earliest (values c.self.inside.rows.entries) c.self.invariant.none_due);
      counted = counted_orphans c.self.inside.counts c.set.new.self c.args.conn (values c.self.inside.rows.entries) (values c.orphan.new.rows.entries) settled c.set.ensures.here c.set.ensures.others c.self.invariant.counted;
    }

pub returns-clause-table : goal.returns-clause-table
returns-clause-table g c =
    let settled : values c.orphan.new.rows.entries ≡ map (settled_where (λ r. c.args.conn == r.conn)) (values c.self.inside.rows.entries) =
    ap values c.orphan.ensures.entries ∙ values_map c.self.inside.rows.entries (settled_where (λ r. c.args.conn == r.conn))
    in
    let table : Table g.row.T.Denot = record { rows = []; last = c.self.inside.last; limit = c.self.inside.limit; top = c.self.inside.top } in
    ap (with_rows table) settled ∙ ap (orphans c.args.conn) c.self.view_is

pub returns-clause-stands : goal.returns-clause-stands
returns-clause-stands g c = λ limit top calls stands. returns-clause-table g c ∙ ap (orphans c.args.conn) stands
