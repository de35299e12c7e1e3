use Rattle.std.proofs.Common.{refl}
use Rattle.sms_pdu.proofs.laws.headers_are_read.Goals as goal

pub returns : goal.returns
returns c = record {
  among_others = record { told = refl; body = refl };
  wide = record { told = refl; body = refl };
  twice = record { told = refl; body = refl };
  beyond = record { told = refl; body = refl };
  no_place = record { told = refl; body = refl };
  cut_element = record { told = refl; body = refl };
  empty = record { told = refl; body = refl };
  behind_a_bit = refl;
  longer_than_data = refl;
}
