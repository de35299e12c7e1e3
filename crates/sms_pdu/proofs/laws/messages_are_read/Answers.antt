use Rattle.std.proofs.Common.{refl}
use Rattle.sms_pdu.proofs.laws.messages_are_read.Goals as goal

pub returns : goal.returns
returns c = record {
  text = refl;
  cut_off = refl;
  other_kind = refl;
  class = refl;
  octets = refl;
  nothing = refl;
}
