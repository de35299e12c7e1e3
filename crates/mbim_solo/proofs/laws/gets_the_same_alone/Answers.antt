use Rattle.mbim_solo.proofs.Law.{gets_the_same_alone, alone_is_sound, histories_are_same, served_proxies_are_roomy}
use Rattle.mbim_solo.proofs.laws.gets_the_same_alone.Goals as goal

pub returns : goal.returns
returns c = record {
  bytes = gets_the_same_alone;
  sound = alone_is_sound;
  histories = histories_are_same;
  roomy = served_proxies_are_roomy;
}
