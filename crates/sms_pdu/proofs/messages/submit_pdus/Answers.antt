use Rattle.std.proofs.Common.{◌∙◌, ◌≤◌, sym, ap, arith, length}
use Rattle.sms_pdu.specs.Parts.{is_coded, is_number, parts}
use Rattle.sms_pdu.proofs.Returning.{these_come_back}
use Rattle.sms_pdu.proofs.Sending.{count_is, messages_are}
use Rattle.sms_pdu.proofs.messages.submit_pdus.Goals as goal

pub returns-then-total-gt255-clause-made : goal.returns-then-total-gt255-clause-made
returns-then-total-gt255-clause-made c =
    let number = c.deref.ensures.value ∙ c.in_ok-number.ensures.chars in
    let coded = c.is_coded-coded.ensures ∙ ap is_coded (c.deref-2.ensures.value ∙ c.in_ok-text.ensures.chars) in
    let third = c.deref-3.ensures.value ∙ c.in_ok-text.ensures.chars in
    let fourth = c.deref-4.ensures.value ∙ c.in_ok-text.ensures.chars in
    let count = count_is c.args.text.now _ _ _ _ _ coded c.most_of-most.ensures.most third c.piece_count-total.ensures fourth in
    (sym (c.is_number.ensures ∙ ap is_number number) ∙ c.if-not-is_number.false, omega (arith, count, c.if-total-gt255.true))

pub returns : goal.returns
returns c =
    let number = c.deref.ensures.value ∙ c.in_ok-number.ensures.chars in
    let coded = c.is_coded-coded.ensures ∙ ap is_coded (c.deref-2.ensures.value ∙ c.in_ok-text.ensures.chars) in
    let third = c.deref-3.ensures.value ∙ c.in_ok-text.ensures.chars in
    let fourth = c.deref-4.ensures.value ∙ c.in_ok-text.ensures.chars in
    let fifth = c.deref-5.ensures.value ∙ c.in_ok-number.ensures.chars in
    let sixth = c.deref-6.ensures.value ∙ c.in_ok-text.ensures.chars in
    let count = count_is c.args.text.now _ _ _ _ _ coded c.most_of-most.ensures.most third c.piece_count-total.ensures fourth in
    let is = sym (c.is_number.ensures ∙ ap is_number number) ∙ c.if-not-is_number.false in
    let few : length (parts c.args.text.now) ≤ 255 = omega (arith, count, c.if-total-gt255.false) in
    let list =
    messages_are _ c.args.text.now _ _ _ _ _ _ _ _ _ _ coded c.most_of-most.ensures.most third c.piece_count-total.ensures fourth c.in_ok-front.ensures fifth (c.from.ensures ∙ c.in_ok-pdus.ensures) sixth
    in
    record {
      made = (is, few, list);
      come_back = these_come_back c.args.number.now c.args.text.now c.args.reference c.from.result is c.in_ok-text.ensures.scalars few (omega (arith, c.ranges.reference.fits)) list;
    }
