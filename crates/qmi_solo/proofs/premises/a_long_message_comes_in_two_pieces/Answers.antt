use Rattle.std.proofs.Common.{refl}
use Rattle.proxy_solo.specs.Solo.{pieces_of}
use Rattle.proxy_solo.specs.Solo as alone
use Rattle.qmi_solo.proofs.premises.a_long_message_comes_in_two_pieces.Goals as goal

pub returns : goal.returns
unfolding alone.pieces_of
returns c = refl
