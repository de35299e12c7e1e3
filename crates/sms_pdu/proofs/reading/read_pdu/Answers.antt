use Rattle.std.proofs.Common.{sym, ◌∙◌}
use Rattle.sms_pdu.proofs.Whole.{whole}
use Rattle.sms_pdu.proofs.reading.read_pdu.Goals as goal

pub address_in-requires : goal.address_in-requires
address_in-requires c = (whole c.args.bytes.now (sym c.fault_in.ensures ∙ c.in_default.is)).address

pub body_in-requires-clause-data : goal.body_in-requires-clause-data
body_in-requires-clause-data c = (whole c.args.bytes.now (sym c.fault_in.ensures ∙ c.in_default.is)).user_data

pub body_in-requires-clause-header : goal.body_in-requires-clause-header
body_in-requires-clause-header c = (whole c.args.bytes.now (sym c.fault_in.ensures ∙ c.in_default.is)).header
