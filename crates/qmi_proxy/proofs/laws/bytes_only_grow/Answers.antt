use Rattle.qmi_proxy.proofs.Growing.{bytes_grow, joining_starts_with_none, taking_takes_the_first, taking_of_the_absent_takes_none}
use Rattle.qmi_proxy.proofs.laws.bytes_only_grow.Goals as goal

pub returns : goal.returns
returns c = record {
  grow = bytes_grow;
  joining = joining_starts_with_none;
  taking = taking_takes_the_first;
  absent = taking_of_the_absent_takes_none;
}
