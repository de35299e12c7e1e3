use Rattle.std.proofs.Common.{◌∙◌, List, ap, find}
use Rattle.sms_pdu.specs.declared.fields.Field.{Field}
use Rattle.sms_pdu.specs.Fields.{is_short}
use Rattle.sms_pdu.proofs.fields.short_field.Goals as goal

pub returns : goal.returns
returns c = c.first_short.ensures ∙ ap (λ (l : List Field). find (is_short c.args.bytes.now) l) c.fields.ensures
