use Rattle.std.proofs.Common.{◌∙◌, ap, sym, option_map, Bor, arith}
use Rattle.kit_bytes.specs.declared.text.Text.{Text}
use Rattle.sms_pdu.specs.Entries.{pdus_of}
use Rattle.sms_pdu.proofs.Joins.{HasTextUpTo-more, no_text, whole_group}
use Rattle.sms_pdu.proofs.joining.group_text.Goals as goal

pub returns-in-None : goal.returns-in-None
returns-in-None c =
    sym (no_text (pdus_of c.args.run.now) c.args.pdu.now c.loop-place.place _ c.loop-place.invariant c.args.last (omega (arith, c.loop-place-test.true)) (sym c.text_at.ensures ∙ ap (option_map (λ (text : Bor Text). text.now)) c.in-None.is))

pub loop-place-preserved : goal.loop-place-preserved
loop-place-preserved c =
    HasTextUpTo-more (pdus_of c.args.run.now) c.args.pdu.now c.loop-place.place _ c.loop-place.invariant c.in-Some.more.now _ (sym c.text_at.ensures ∙ ap (option_map (λ (text : Bor Text). text.now)) c.in-Some.is) (rw c.as_str.ensures at c.in_ok-push_str-in-Some.ensures.bytes)

pub returns : goal.returns
returns c = whole_group (pdus_of c.args.run.now) c.args.pdu.now c.loop-place.place _ c.loop-place.invariant c.args.last c.from.result (omega (arith, c.loop-place-test.false, c.loop-place.auto.place-end)) c.from.ensures
