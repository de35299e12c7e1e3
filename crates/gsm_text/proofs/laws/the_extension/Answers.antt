use Rattle.std.proofs.Common.{refl}
use Rattle.gsm_text.proofs.laws.the_extension.Goals as goal

pub returns : goal.returns
returns c = record {
  written = refl;
  read = refl;
  other = refl;
  twice = refl;
  last = refl;
}
