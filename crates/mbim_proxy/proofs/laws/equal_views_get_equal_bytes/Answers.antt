use Rattle.std.proofs.Common.{refl}
use Rattle.mbim_proxy.proofs.laws.equal_views_get_equal_bytes.Goals as goal

pub returns : goal.returns
returns c = λ device time_limit other_limit starts_away other_away entries entry. refl
