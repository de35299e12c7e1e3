use Rattle.std.proofs.Common.{◌∙◌}
use Rattle.sms_pdu.proofs.Pieces.{coded_is}
use Rattle.sms_pdu.proofs.splitting.is_coded.Goals as goal

pub returns : goal.returns
returns c = c.all_have_codes.ensures ∙ coded_is c.args.text.now
