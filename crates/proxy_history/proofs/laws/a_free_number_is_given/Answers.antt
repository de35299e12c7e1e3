use Rattle.proxy_history.proofs.Numbers.{number_after-free, number_after-none}
use Rattle.proxy_history.proofs.laws.a_free_number_is_given.Goals as goal

pub returns : goal.returns
returns c = record { first = number_after-free; none = number_after-none }
