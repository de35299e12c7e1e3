use Rattle.qmi_isolation.proofs.Numbers.{numbers_are_free_when_given}
use Rattle.qmi_isolation.proofs.laws.numbers_are_free_when_given.Goals as goal

pub returns : goal.returns
returns c = numbers_are_free_when_given
