use Rattle.std.proofs.Common.{refl}
use Rattle.sim_supervision.proofs.words.profile_words.Goals as goal

pub returns : goal.returns
returns c = rw (c.in-Some.is, c.in_ok-add.ensures, c.in_ok-words.ensures, c.in_ok-word.ensures, c.as_str.ensures, c.value.ensures.same) refl
