use Rattle.std.proofs.Common.{◌≡◌, Some, ap, sym, ◌∙◌, ◌==◌, arith, subst, is_some}
use Rattle.std.specs.List.{position, remove}
use Rattle.number_space.specs.Chain.{values}
use Rattle.number_space.specs.Table.{Table, row_of, found, answers}
use Rattle.number_space.proofs.InUse.{position_at}
use Rattle.number_space.proofs.Tables.{answers_none, answers_at, sound_remove, none_due_remove}
use Rattle.number_space.proofs.Index.{RowAt, row_at, row_is, row_none, index_remove, values_remove}
use Rattle.number_space.proofs.Walks.{row_read}
use Rattle.number_space.proofs.Waiting.{counted_remove}
use Rattle.number_space.specs.Index.{NumberAt}
use Rattle.number_space.proofs.space.Space.answer.Goals as goal
use Rattle.number_space.proofs.space.Space.answer.Goals.{then-row, else-row}

pub returns-in_default-clause-found : goal.returns-in_default-clause-found
returns-in_default-clause-found g c = ap found (sym (row_none c.self.inside.index.entries c.self.inside.rows.entries c.args.number c.self.invariant.indexed (c.find.ensures.absent (ap is_some c.in_default.is))) ∙ ap (λ (t : Table g.row.T.Denot). row_of c.args.number t.rows) c.self.view_is)

pub returns-in_default-clause-table : goal.returns-in_default-clause-table
returns-in_default-clause-table g c =
    subst (λ (t : Table g.row.T.Denot). t ≡ answers c.args.number t) c.self.view_is (answers_none c.args.number _ (row_none c.self.inside.index.entries c.self.inside.rows.entries c.args.number c.self.invariant.indexed (c.find.ensures.absent (ap is_some c.in_default.is))))

pub returns-in_default-clause-stands : goal.returns-in_default-clause-stands
returns-in_default-clause-stands g c = λ limit top calls stands. returns-in_default-clause-table g c ∙ ap (answers c.args.number) stands

pub take-requires : goal.take-requires
take-requires g c = let at : NumberAt c.args.number c.self.inside.index.entries c.in-Some.place = rw c.in-Some.is at c.find.ensures.found in omega (arith, at.within)

pub remove-row-requires : goal.remove-row-requires
remove-row-requires g c =
    let row : RowAt c.args.number c.take.result c.self.inside.rows.entries = row_at c.self.inside.index.entries c.self.inside.rows.entries c.args.number c.in-Some.place c.take.result c.self.invariant.indexed (rw c.in-Some.is at c.find.ensures.found) c.take.ensures.key in
    record { place = row.place; there = row.there }

pub invariant_of-self : goal.invariant_of-self
invariant_of-self g c =
    let row : RowAt c.args.number c.take.result c.self.inside.rows.entries = row_at c.self.inside.index.entries c.self.inside.rows.entries c.args.number c.in-Some.place c.take.result c.self.invariant.indexed (rw c.in-Some.is at c.find.ensures.found) c.take.ensures.key in
    let at : position (λ r. c.args.number == r.number) (values c.self.inside.rows.entries) ≡ Some row.place = sym (position_at c.args.number (values c.self.inside.rows.entries) row.place c.self.invariant.sound.distinct row.stands) in
    let kept : values c.remove-row.new.self.entries ≡ remove (values c.self.inside.rows.entries) row.place = ap values (c.remove-row.ensures.entries row.place row.there) ∙ values_remove c.self.inside.rows.entries row.place in
    record {
      sound = sound_remove c.args.number row.place _ c.remove-row.result (values c.remove-row.new.self.entries) c.self.invariant.sound at kept;
      room = omega (arith, c.self.invariant.room, c.remove-row.ensures.capacity);
      index_room = omega (arith, c.self.invariant.index_room, c.take.ensures.capacity);
      indexed = rw (c.take.ensures.entries, c.remove-row.ensures.entries row.place row.there) (index_remove c.self.inside.index.entries c.self.inside.rows.entries c.args.number c.in-Some.place row.place c.self.invariant.indexed c.self.invariant.sound.distinct (rw c.in-Some.is at c.find.ensures.found) row.stands);
      none_due = none_due_remove c.args.number row.place _ c.remove-row.result (values c.remove-row.new.self.entries) c.self.inside.earliest c.self.invariant.sound at kept c.self.invariant.none_due;
      counted = counted_remove c.self.inside.counts c.ended.new.self (values c.self.inside.rows.entries) (values c.remove-row.new.self.entries) row.place c.remove-row.result row.stands.within (row_read c.self.inside.rows.entries row.place c.take.result c.remove-row.result row.there (c.remove-row.ensures.value row.place (c.take.result, c.remove-row.result) row.there)) kept c.ended.ensures.here c.ended.ensures.others c.self.invariant.counted;
    }

pub returns-clause-found : goal.returns-clause-found
returns-clause-found g c =
    let row : RowAt c.args.number c.take.result c.self.inside.rows.entries = row_at c.self.inside.index.entries c.self.inside.rows.entries c.args.number c.in-Some.place c.take.result c.self.invariant.indexed (rw c.in-Some.is at c.find.ensures.found) c.take.ensures.key in
    let is : Some c.remove-row.result ≡ row_of c.args.number c.args.self.now.rows =
    sym (row_is c.self.inside.rows.entries c.args.number c.take.result c.remove-row.result c.self.invariant.sound.distinct row (c.remove-row.ensures.value row.place (c.take.result, c.remove-row.result) row.there))
    ∙ ap (λ (t : Table g.row.T.Denot). row_of c.args.number t.rows) c.self.view_is
    in
    elim c.if-row.branch [
      | then-row w ↦ w.result-is ∙ rw (w.if-row.true) at (ap found is)
      | else-row w ↦ w.result-is ∙ rw (w.if-row.false) at (ap found is)
    ]

pub returns-clause-table : goal.returns-clause-table
returns-clause-table g c =
    let row : RowAt c.args.number c.take.result c.self.inside.rows.entries = row_at c.self.inside.index.entries c.self.inside.rows.entries c.args.number c.in-Some.place c.take.result c.self.invariant.indexed (rw c.in-Some.is at c.find.ensures.found) c.take.ensures.key in
    let at : position (λ r. c.args.number == r.number) (values c.self.inside.rows.entries) ≡ Some row.place = sym (position_at c.args.number (values c.self.inside.rows.entries) row.place c.self.invariant.sound.distinct row.stands) in
    answers_at c.args.number row.place _ c.remove-row.result (values c.remove-row.new.self.entries) c.self.invariant.sound at (ap values (c.remove-row.ensures.entries row.place row.there) ∙ values_remove c.self.inside.rows.entries row.place) ∙ ap (answers c.args.number) c.self.view_is

pub returns-clause-stands : goal.returns-clause-stands
returns-clause-stands g c = λ limit top calls stands. returns-clause-table g c ∙ ap (answers c.args.number) stands
