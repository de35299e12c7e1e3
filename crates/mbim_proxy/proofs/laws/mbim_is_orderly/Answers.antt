use Rattle.mbim_proxy.proofs.Walk.{orderly_with_anything}
use Rattle.mbim_proxy.proofs.laws.mbim_is_orderly.Goals as goal

pub returns : goal.returns
returns c = orderly_with_anything
