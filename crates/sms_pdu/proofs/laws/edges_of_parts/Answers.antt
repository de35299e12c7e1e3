use Rattle.std.proofs.Common.{refl}
use Rattle.sms_pdu.proofs.laws.edges_of_parts.Goals as goal

pub returns : goal.returns
returns c = record {
  codes_160 = refl;
  codes_161 = refl;
  codes_153 = refl;
  codes_154 = refl;
  three_parts = refl;
  units_70 = refl;
  units_71 = refl;
  units_67 = refl;
  units_68 = refl;
}
