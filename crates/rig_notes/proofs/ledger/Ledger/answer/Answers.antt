use Rattle.std.proofs.Common.{◌≡◌, ◌==◌, not, List, filter, Some, rules}
use Rattle.std.proofs.lemmas.Fn.{filter_same}
use Rattle.rig_trace.specs.declared.Row.{Row}
use Rattle.rig_trace.specs.Rows.{Ledger, first_with}
use Rattle.rig_notes.proofs.Noted.{is_answered}
use Rattle.rig_notes.proofs.ledger.Ledger.answer.Goals as goal

pub returns-in_ok-self-inside-clause-answered : goal.returns-in_ok-self-inside-clause-answered
returns-in_ok-self-inside-clause-answered g c =
    let rows : List Row = c.self.inside.rows.items in
    let kept : c.retain.new.self.items ≡ filter (λ other. not (c.in-Some.row.serial == other.serial)) rows = filter_same _ _ _ (λ x b f' k. search rules) _ _ c.retain.ensures.filtered in
    let found : first_with (g.R.Reading.reading.of_answer c.args.message.now) rows ≡ Some c.in-Some.row = search rules in
    let old : Ledger = record { rows = rows; asked = c.self.inside.asked; time = c.self.inside.time; said = c.self.inside.said; counts = c.self.inside.counts } in
    rw (← c.self.view_is) (is_answered old c.in-Some.row (first_with (g.R.Reading.reading.of_answer c.args.message.now) rows) _ _ found kept c.in_ok-self-inside.ensures)
