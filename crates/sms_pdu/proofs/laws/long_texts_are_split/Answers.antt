use Rattle.std.proofs.Common.{refl}
use Rattle.sms_pdu.proofs.laws.long_texts_are_split.Goals as goal

pub returns : goal.returns
returns c = record {
  whole = refl;
  two = refl;
  lengths = refl;
  not_cut = refl;
  units = refl;
  more_units = refl;
  pair_not_cut = refl;
  empty = refl;
}
