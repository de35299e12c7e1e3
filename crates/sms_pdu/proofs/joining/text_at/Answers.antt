use Rattle.std.proofs.Common.{◌≡◌, ◌∙◌, ap, sym, find, option_map, rules, tests, Some, None, Bor}
use Rattle.std.proofs.lemmas.Iterator.{YieldsList-from_slice}
use Rattle.std.proofs.lemmas.Iterator.Search.{find_from_yields_List}
use Rattle.kit_bytes.specs.declared.text.Text.{Text}
use Rattle.sms_pdu.specs.declared.entries.Entry.{Entry}
use Rattle.sms_pdu.specs.Entries.{pdus_of}
use Rattle.sms_pdu.specs.Joining.{is_at}
use Rattle.sms_pdu.proofs.Groups.{find_map}
use Rattle.sms_pdu.proofs.Joins.{told_at}
use Rattle.sms_pdu.proofs.joining.text_at.Goals as goal

-- what is found in the run
pub returns-in_err-found : goal.returns-in_err-found
returns-in_err-found c =
    let found = find_from_yields_List (λ (entry : Entry). is_at c.args.pdu.now c.args.place entry.pdu.now) _ _ c.find.result c.find.ensures.ran (YieldsList-from_slice c.args.run.now cc) (λ x b q k. search (rules, tests)) in
    let told : option_map (λ (entry : Entry). entry.pdu.now) None ≡ find (is_at c.args.pdu.now c.args.place) (pdus_of c.args.run.now) =
    ap (option_map (λ (entry : Entry). entry.pdu.now)) (ap (option_map (λ (entry : Bor Entry). entry.now)) (sym c.in_err-found.was) ∙ found) ∙ sym (find_map (λ (entry : Entry). entry.pdu.now) (is_at c.args.pdu.now c.args.place) c.args.run.now)
    in
    ap (option_map (λ (text : Bor Text). text.now)) c.from_residual.ensures ∙ told_at (pdus_of c.args.run.now) c.args.pdu.now c.args.place None told

pub returns : goal.returns
returns c =
    let found = find_from_yields_List (λ (entry : Entry). is_at c.args.pdu.now c.args.place entry.pdu.now) _ _ c.find.result c.find.ensures.ran (YieldsList-from_slice c.args.run.now cc) (λ x b q k. search (rules, tests)) in
    let told : Some c.in_ok-found.found.now.pdu.now ≡ find (is_at c.args.pdu.now c.args.place) (pdus_of c.args.run.now) =
    ap (option_map (λ (entry : Entry). entry.pdu.now)) (ap (option_map (λ (entry : Bor Entry). entry.now)) (sym c.in_ok-found.was) ∙ found) ∙ sym (find_map (λ (entry : Entry). entry.pdu.now) (is_at c.args.pdu.now c.args.place) c.args.run.now)
    in
    c.written.ensures ∙ told_at (pdus_of c.args.run.now) c.args.pdu.now c.args.place (Some c.in_ok-found.found.now.pdu.now) told
