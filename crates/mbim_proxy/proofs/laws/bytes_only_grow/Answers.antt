use Rattle.proxy_history.proofs.Folds.{others_change_nothing, bytes_grow, joining_starts_with_none, taking_takes}
use Rattle.mbim_proxy.specs.History.{mbim_protocol}
use Rattle.mbim_proxy.proofs.Walk.{Asks, orderly}
use Rattle.mbim_proxy.proofs.laws.bytes_only_grow.Goals as goal

pub returns : goal.returns
returns c = record {
  others = λ s. others_change_nothing (mbim_protocol s) (Asks s) (orderly s);
  grow = λ s. bytes_grow (mbim_protocol s) (Asks s) (orderly s);
  joining = λ s. joining_starts_with_none (mbim_protocol s) (Asks s) (orderly s);
  taking = λ s. taking_takes (mbim_protocol s) (Asks s) (orderly s);
}
