use Rattle.std.proofs.Common.{◌≡◌, Some, sym, ◌∙◌}
use Rattle.rig_trace.specs.Rows.{number_at}
use Rattle.rig_notes.proofs.Meeting.{answers_as, not_asked}
use Rattle.rig_notes.proofs.alone.hear.Goals as goal

pub returns-in_default-clause-same : goal.returns-in_default-clause-same
returns-in_default-clause-same g c =
    not_asked g.R.Reading.reading c.args.conn c.args.place c.args.message.now c.args.bench.now (sym c.has_failed.ensures ∙ c.if-has_failed.false) (sym c.number_at.ensures ∙ c.in_default.is)

pub returns-clause-same : goal.returns-clause-same
returns-clause-same g c =
    let heard : c.as_slice.result.now ≡ g.R.Reading.reading.with_number c.in-Some.number c.args.message.now = c.as_slice.ensures ∙ c.in_ok-answer.ensures in
    let number : number_at c.args.conn c.args.place c.args.bench.now.notes.ledger.rows ≡ Some c.in-Some.number = sym c.number_at.ensures ∙ c.in-Some.is in
    answers_as g.R.Reading.reading c.args.conn c.args.place c.args.message.now c.args.bench.now (sym c.has_failed.ensures ∙ c.if-has_failed.false) c.in-Some.number c.as_slice.result.now number heard c.answer_comes.ensures.same
