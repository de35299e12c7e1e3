use Rattle.std.proofs.Common.{map, ap, ◌∙◌}
use Rattle.serde_json.specs.Written.{members_have_float}
use Rattle.message_tables.specs.View.{tlv_view}
use Rattle.table_requests.specs.Messages.{answer_json}
use Rattle.table_requests.proofs.Kept.{answer-no_float, answer-shallow, back_whole}
use Rattle.table_requests.proofs.lines.answer_line.Goals as goal

pub object_line-requires : goal.object_line-requires
object_line-requires g c =
    ap members_have_float c.in_ok-members.ensures ∙ answer-no_float (g.S.Shows.showing c.args.shows.now) (map tlv_view c.args.forms.now) c.args.tlvs.now c.requires c.args.kept c.args.outcome

pub returns-clause-text : goal.returns-clause-text
returns-clause-text g c = rw c.in_ok-members.ensures at c.object_line.ensures.text

pub returns-clause-reads_back : goal.returns-clause-reads_back
returns-clause-reads_back g c =
    let showing = g.S.Shows.showing c.args.shows.now in
    let forms = map tlv_view c.args.forms.now in
    let tlvs = c.args.tlvs.now in
    back_whole c.object_line.result (answer_json showing forms tlvs c.args.kept c.args.outcome) (answer-shallow showing forms tlvs c.requires c.args.kept c.args.outcome) (rw c.in_ok-members.ensures at c.object_line.ensures.reads_back)
