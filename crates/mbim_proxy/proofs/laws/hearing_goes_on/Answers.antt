use Rattle.mbim_proxy.specs.Delivering.{none_begun}
use Rattle.mbim_proxy.proofs.Delivered.{heard_goes_on}
use Rattle.mbim_proxy.proofs.laws.hearing_goes_on.Goals as goal

pub returns : goal.returns
returns c = λ longest messages more. heard_goes_on longest none_begun messages more
