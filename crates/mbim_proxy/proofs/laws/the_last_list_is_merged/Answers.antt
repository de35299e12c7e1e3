use Rattle.mbim_proxy.proofs.Merging.{last_list_is_merged}
use Rattle.mbim_proxy.proofs.laws.the_last_list_is_merged.Goals as goal

pub returns : goal.returns
returns c = last_list_is_merged
