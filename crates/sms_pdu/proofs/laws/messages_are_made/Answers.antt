use Rattle.std.proofs.Common.{refl}
use Rattle.sms_pdu.proofs.laws.messages_are_made.Goals as goal

pub returns : goal.returns
returns c = record {
  hello = refl;
  euro = refl;
  letter = refl;
  refused = refl;
}
