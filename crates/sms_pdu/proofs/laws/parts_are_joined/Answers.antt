use Rattle.std.proofs.Common.{refl}
use Rattle.sms_pdu.proofs.laws.parts_are_joined.Goals as goal

pub returns : goal.returns
returns c = record {
  nothing = refl;
  alone = refl;
  any_order = refl;
  twice = refl;
  missing = refl;
  first_members = refl;
  other_width = refl;
  other_address = refl;
  octets = refl;
}
