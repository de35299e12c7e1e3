use Rattle.many_history.proofs.Meeting.{modem_and_clock_are, all_is_said}
use Rattle.many_history.proofs.laws.each_device_meets_its_own.Goals as goal

pub returns : goal.returns
returns c = λ start. record {
  modem = λ s events d. modem_and_clock_are s events d;
  client = all_is_said;
}
