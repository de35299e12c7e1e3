use Rattle.std.proofs.Common.{ap, ◌∙◌}
use Rattle.serde_json.specs.Written.{members_have_float}
use Rattle.json_values.proofs.Answered.{answer-no_float}
use Rattle.json_values.proofs.answers.qmi_line.Goals as goal

pub object_line-requires : goal.object_line-requires
object_line-requires g c = ap members_have_float c.in_ok-members.ensures ∙ answer-no_float (g.S.Shows.showing c.args.shows.now) c.args.end.now.answer c.args.end.now.kept

pub returns-clause-text : goal.returns-clause-text
returns-clause-text g c = rw c.in_ok-members.ensures at c.object_line.ensures.text

pub returns-clause-reads_back : goal.returns-clause-reads_back
returns-clause-reads_back g c = rw c.in_ok-members.ensures at c.object_line.ensures.reads_back
