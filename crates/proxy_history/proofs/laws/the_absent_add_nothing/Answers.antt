use Rattle.proxy_history.proofs.Absent.{adds_nothing, lost_is_away, returned_is_there}
use Rattle.proxy_history.proofs.laws.the_absent_add_nothing.Goals as goal

pub returns : goal.returns
returns c = λ start. record {
  client = adds_nothing;
  lost = lost_is_away;
  returned = returned_is_there;
}
