use Rattle.std.proofs.Common.{refl}
use Rattle.gsm_text.proofs.laws.the_alphabet.Goals as goal

pub returns : goal.returns
returns c = record {
  row_0 = refl;
  row_1 = refl;
  marks = refl;
  digits = refl;
  capitals = refl;
  smalls = refl;
}
