use Rattle.std.proofs.Common.{refl}
use Rattle.sms_pdu.proofs.laws.addresses_are_read.Goals as goal

pub returns : goal.returns
returns c = record {
  one_letter = refl;
  two_letters = refl;
  three_letters = refl;
  four_letters = refl;
  five_letters = refl;
  six_letters = refl;
  seven_letters = refl;
  eight_letters = refl;
  nine_letters = refl;
  ten_letters = refl;
  eleven_letters = refl;
  national = refl;
  other_digits = refl;
  none = refl;
  long = refl;
}
