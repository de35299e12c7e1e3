use Rattle.std.proofs.Common.{ℕ, List, ◌++◌, map, codes, encode_utf8_all, ap, ◌∙◌, append_assoc}
use Rattle.print_text.specs.Lines.{heading}
use Rattle.tlv_codec.specs.Tlv.{tlvs_of}
use Rattle.qmux_frame.specs.declared.kind.MessageKind.TheVariants.{Indication}
use Rattle.message_tables.specs.View.{tlv_view}
use Rattle.dissect.specs.Qmi.{entry_lines}
use Rattle.table_following.specs.Lines.{indication_lines}
use Rattle.table_following.proofs.text.push_lines.Goals as goal

pub returns : goal.returns
unfolding indication_lines
returns c =
    let lines : List ℕ = entry_lines Indication (map tlv_view c.args.forms.now) c.args.tlvs.now (tlvs_of c.args.tlvs.now) in
    c.in_ok-push_tlvs.ensures
    ∙ ap (λ (l : List ℕ). l ++ lines) (c.in_ok-push_heading.ensures ∙ ap (λ (name : List ℕ). c.args.lines.now ++ heading (codes "indication ") name) c.as_str.ensures)
    ∙ append_assoc c.args.lines.now (heading (codes "indication ") (encode_utf8_all c.args.name.now)) lines
