use Rattle.std.proofs.Common.{◌∙◌, ◌-◌, nat_lt, rules, tests}
use Rattle.std.proofs.lemmas.Iterator.{YieldsList-from_slice}
use Rattle.std.proofs.lemmas.Iterator.Search.{find_from_yields_List}
use Rattle.sms_pdu.specs.declared.fields.Field.{Field}
use Rattle.sms_pdu.proofs.fields.first_short.Goals as goal

pub returns : goal.returns
returns c =
    c.copied.ensures
    ∙ find_from_yields_List (λ (field : Field). nat_lt (c.args.end - field.start) field.size) _ _ c.find.result c.find.ensures.ran (YieldsList-from_slice c.args.fields.now cc) (λ x b q k. search (rules, tests))
