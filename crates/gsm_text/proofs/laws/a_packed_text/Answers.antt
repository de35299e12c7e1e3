use Rattle.std.proofs.Common.{refl, arith}
use Rattle.gsm_text.proofs.laws.a_packed_text.Goals as goal

pub returns : goal.returns
returns c = record {
  hello = refl;
  unpacked = refl;
  euro = refl;
  hi = refl;
  behind_a_bit = refl;
  nothing = refl;
  short = omega arith;
}
