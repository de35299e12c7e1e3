use Rattle.std.proofs.Common.{refl}
use Rattle.sms_pdu.proofs.laws.texts_are_sent.Goals as goal

pub returns : goal.returns
returns c = record {
  empty = refl;
  escape = refl;
  pair = refl;
  long_number = refl;
  longer_number = refl;
  plus_alone = refl;
  two_plus = refl;
  no_number = refl;
}
