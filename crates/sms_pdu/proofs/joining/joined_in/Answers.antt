use Rattle.std.proofs.Common.{◌∙◌, ap, filter, sym}
use Rattle.sms_pdu.specs.Entries.{is_of}
use Rattle.sms_pdu.proofs.Groups.{run_begins, run_text}
use Rattle.sms_pdu.proofs.Joins.{joined-known, joined-none, joined-more, whole-none}
use Rattle.sms_pdu.proofs.joining.joined_in.Goals as goal
use Rattle.sms_pdu.proofs.joining.joined_in.Goals.{in-Some+in_ok-address+in_ok-push, in_default}

pub loop-index-preserved-then-begins_before : goal.loop-index-preserved-then-begins_before
loop-index-preserved-then-begins_before c =
    let pdu = c.index-pdus-index.result in
    let is_run = c.run_of-run.ensures ∙ ap (filter (is_of pdu)) c.deref.ensures.value ∙ c.in_ok-sort_by_group.ensures.kept pdu in
    let begins = run_begins c.args.pdus.now pdu _ _ c.in_ok-entries.ensures is_run c.loop-index.index in
    joined-known c.args.pdus.now c.loop-index.index pdu c.loop-index-test.true c.index-pdus-index.is (sym begins ∙ sym c.begins_before.ensures ∙ c.if-begins_before.true) _ c.loop-index.invariant

pub loop-index-preserved : goal.loop-index-preserved
loop-index-preserved c =
    let pdu = c.index-pdus-index.result in
    let is_run = c.run_of-run.ensures ∙ ap (filter (is_of pdu)) c.deref.ensures.value ∙ c.in_ok-sort_by_group.ensures.kept pdu in
    let begins = run_begins c.args.pdus.now pdu _ _ c.in_ok-entries.ensures is_run c.loop-index.index in
    let new = sym begins ∙ sym c.begins_before.ensures ∙ c.if-begins_before.false in
    let told = sym (run_text c.args.pdus.now pdu _ _ c.in_ok-entries.ensures is_run) ∙ sym c.in_ok-text.ensures in
    elim c.match-branch-4.branch [
      | in-Some+in_ok-address+in_ok-push w ↦
          joined-more c.args.pdus.now c.loop-index.index pdu c.loop-index-test.true c.index-pdus-index.is new _ _ (told ∙ w.in-Some.is) w.in_ok-address.ensures
          _ _ c.loop-index.invariant (rw w.joined-is w.in_ok-push.ensures.items)
      | in_default w ↦ rw w.joined-is
          (joined-none c.args.pdus.now c.loop-index.index pdu c.loop-index-test.true c.index-pdus-index.is new (whole-none c.args.pdus.now pdu (told ∙ w.in_default.is)) _ c.loop-index.invariant)
    ]
