use Rattle.std.proofs.Common.{ap, ◌∙◌}
use Rattle.serde_json.specs.Written.{members_have_float}
use Rattle.fields_json.proofs.Shallow.{answer-no_float}
use Rattle.fields_json.proofs.answer.mbim_line.Goals as goal

pub object_line-requires : goal.object_line-requires
object_line-requires c = ap members_have_float c.in_ok-members.ensures ∙ answer-no_float c.args.answer.now

pub returns-clause-text : goal.returns-clause-text
returns-clause-text c = rw c.in_ok-members.ensures at c.object_line.ensures.text

pub returns-clause-reads_back : goal.returns-clause-reads_back
returns-clause-reads_back c = rw c.in_ok-members.ensures at c.object_line.ensures.reads_back
