use Rattle.std.proofs.Common.{◌≡◌, ◌∙◌, rules}
use Rattle.std.specs.Str.{encode_utf8_all}
use Rattle.transparency.proofs.QmiAlike.{same_printed, runs_so}
use Rattle.transparency.proofs.qmi.run_twice.Goals as goal

pub returns-clause-direct : goal.returns-clause-direct
returns-clause-direct g c = c.in_ok-direct.ensures.held.prints

pub returns-clause-through : goal.returns-clause-through
returns-clause-through g c = c.in_ok-through.ensures.prints

pub returns-clause-same : goal.returns-clause-same
returns-clause-same g c = λ told.
    same_printed c.args.profile.now c.args.plan.now c.in_ok-direct.direct.printed c.in_ok-through.through.printed c.in_ok-direct.ensures.limits c.in_ok-have_room.ensures told
    (returns-clause-direct g c) (returns-clause-through g c)

pub returns-clause-runs : goal.returns-clause-runs
returns-clause-runs g c = λ earlier told.
    let path : c.as_str-device.result.now ≡ encode_utf8_all c.args.plan.now.device = search rules in
    let texts : c.deref.result.now ≡ c.in_ok-through.through.texts.items = search rules in
    runs_so c.args.profile.now c.args.plan.now (g.B.Bench.runs c.play.new.bench) earlier c.as_str-device.result.now c.deref.result.now (c.in_ok-play.ensures.runs earlier told).told path
    (texts ∙ c.in_ok-through.ensures.texts_are)
