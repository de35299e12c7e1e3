use Rattle.std.proofs.Common.{◌≡◌, true, refl, subst}
use Rattle.std.proofs.lemmas.Result.{IfOk-weaker}
use Rattle.rig_trace.specs.declared.Met.{Met}
use Rattle.rig_notes.specs.Alone.{is_met}
use Rattle.rig_notes.proofs.Meeting.{comes, came_goes_on, said_goes_on, heard_goes_on, collected_goes_on}
use Rattle.rig_notes.proofs.alone.meet_own.Goals as goal

pub returns-in-Joins-clause-same : goal.returns-in-Joins-clause-same
returns-in-Joins-clause-same g c =
    let Mine : Met → Type 0 = λ met. is_met c.args.conn met ≡ true in
    rw c.in-Joins.is (came_goes_on g.R.Reading.reading c.args.conn c.args.fresh c.in-Joins.field-0 (subst Mine c.in-Joins.is c.requires.own) c.come.ensures.same)

pub returns-in-Said-clause-same : goal.returns-in-Said-clause-same
returns-in-Said-clause-same g c =
    let Mine : Met → Type 0 = λ met. is_met c.args.conn met ≡ true in
    rw (c.in-Said.is, ← c.as_slice.ensures) (said_goes_on g.R.Reading.reading c.args.conn c.args.fresh c.in-Said.field-0 c.as_slice.result.now (subst Mine c.in-Said.is c.requires.own) c.say.ensures.same)

pub returns-in-Heard-clause-same : goal.returns-in-Heard-clause-same
returns-in-Heard-clause-same g c =
    let Mine : Met → Type 0 = λ met. is_met c.args.conn met ≡ true in
    rw (c.in-Heard.is, ← c.as_slice-in-Heard.ensures)
    (IfOk-weaker c.hear.result _ _ (λ same it. heard_goes_on g.R.Reading.reading c.args.conn c.args.fresh c.in-Heard.field-0 c.in-Heard.place c.as_slice-in-Heard.result.now (subst Mine c.in-Heard.is c.requires.own) it) c.hear.ensures.same)

pub returns-in-Takes-clause-same : goal.returns-in-Takes-clause-same
returns-in-Takes-clause-same g c =
    let Mine : Met → Type 0 = λ met. is_met c.args.conn met ≡ true in
    rw (c.in-Takes.is, ← c.as_slice-in-Takes.ensures)
    (collected_goes_on g.R.Reading.reading c.args.conn c.args.fresh c.in-Takes.field-0 c.as_slice-in-Takes.result.now (subst Mine c.in-Takes.is c.requires.own) c.collect.ensures.same)

pub returns-in-ClockShows-clause-same : goal.returns-in-ClockShows-clause-same
returns-in-ClockShows-clause-same g c = rw c.in-ClockShows.is (comes (λ p own kept. refl) c.meets.ensures.met)
