use Rattle.std.proofs.Common.{ap, sym, ◌∙◌, option_map, is_some, arith}
use Rattle.number_space.specs.Index.{NumberAt}
use Rattle.number_space.specs.Table.{Table, row_of}
use Rattle.number_space.proofs.Index.{RowAt, row_at, row_is, row_none}
use Rattle.number_space.proofs.space.Space.look.Goals as goal

pub returns-in_err-place-clause-row : goal.returns-in_err-place-clause-row
returns-in_err-place-clause-row g c =
    c.from_residual.ensures
    ∙ ap (option_map (λ r. (r.conn, r.note, r.pending)))
    (sym (row_none c.self.inside.index.entries c.self.inside.rows.entries c.args.number c.self.invariant.indexed (c.find.ensures.absent (ap is_some c.in_err-place.was))) ∙ ap (λ (t : Table g.row.T.Denot). row_of c.args.number t.rows) c.self.view_is)

pub key_at-requires : goal.key_at-requires
key_at-requires g c = let at : NumberAt c.args.number c.self.inside.index.entries c.in_ok-place.place = rw c.in_ok-place.was at c.find.ensures.found in omega (arith, at.within)

pub at-row-requires : goal.at-row-requires
at-row-requires g c =
    let row : RowAt c.args.number c.key_at.result c.self.inside.rows.entries = row_at c.self.inside.index.entries c.self.inside.rows.entries c.args.number c.in_ok-place.place c.key_at.result c.self.invariant.indexed (rw c.in_ok-place.was at c.find.ensures.found) c.key_at.ensures in
    record { place = row.place; there = row.there }

pub returns-clause-row : goal.returns-clause-row
returns-clause-row g c =
    let row : RowAt c.args.number c.key_at.result c.self.inside.rows.entries = row_at c.self.inside.index.entries c.self.inside.rows.entries c.args.number c.in_ok-place.place c.key_at.result c.self.invariant.indexed (rw c.in_ok-place.was at c.find.ensures.found) c.key_at.ensures in
    ap (option_map (λ r. (r.conn, r.note, r.pending)))
    (sym (row_is c.self.inside.rows.entries c.args.number c.key_at.result c.at-row.result.0 c.self.invariant.sound.distinct row (c.at-row.ensures.value row.place (c.key_at.result, c.at-row.result.0) row.there))
    ∙ ap (λ (t : Table g.row.T.Denot). row_of c.args.number t.rows) c.self.view_is)
