use Rattle.rig_laws.proofs.Law.{nobody_is_disturbed, each_gets_the_same, last_lines_say_all}
use Rattle.rig_laws.proofs.laws.each_client_gets_the_same.Goals as goal

pub returns : goal.returns
returns c = record {
  undisturbed = nobody_is_disturbed;
  same = each_gets_the_same;
  line = last_lines_say_all;
}
