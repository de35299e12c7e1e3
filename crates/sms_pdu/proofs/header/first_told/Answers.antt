use Rattle.std.proofs.Common.{◌∙◌, sym}
use Rattle.sms_pdu.proofs.Elements.{first_told-step, first_told-none}
use Rattle.sms_pdu.proofs.header.first_told.Goals as goal

pub loop-left-preserved : goal.loop-left-preserved
loop-left-preserved c =
    c.loop-left.invariant
    ∙ first_told-step _ _ _ _ _ c.in-len2-up.len_at_least c.from-size.ensures c.if-rest-size.false c.split_at.ensures.front c.split_at.ensures.back c.in_default-told.ensures

pub returns : goal.returns
returns c = first_told-none _ c.in_default.len_below ∙ sym c.loop-left.invariant
