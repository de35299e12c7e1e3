use Rattle.mbim_proxy.proofs.Takings.{takings_bring_one_request}
use Rattle.mbim_proxy.proofs.laws.takings_bring_one_request.Goals as goal

pub returns : goal.returns
returns c = takings_bring_one_request
