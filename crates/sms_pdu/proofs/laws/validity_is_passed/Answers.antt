use Rattle.std.proofs.Common.{refl}
use Rattle.sms_pdu.proofs.laws.validity_is_passed.Goals as goal

pub returns : goal.returns
returns c = record {
  none = refl;
  enhanced = refl;
  relative = refl;
  absolute = refl;
  cut_off = refl;
}
