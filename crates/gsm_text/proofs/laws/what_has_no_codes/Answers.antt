use Rattle.std.proofs.Common.{refl}
use Rattle.gsm_text.proofs.laws.what_has_no_codes.Goals as goal

pub returns : goal.returns
returns c = record {
  letter = refl;
  escape = refl;
  none = refl;
  refused = refl;
}
