use Rattle.std.proofs.Common.{refl}
use Rattle.proxy_solo.specs.Solo.{pieces_of}
use Rattle.mbim_solo.proofs.stories.a_long_answer_comes_in_two_pieces.Goals as goal

pub returns : goal.returns
unfolding pieces_of
returns c = refl
