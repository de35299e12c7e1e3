use Rattle.proxy_history.proofs.Kept.{kept_are_nobodys}
use Rattle.proxy_history.proofs.laws.kept_ids_are_nobodys.Goals as goal

pub returns : goal.returns
returns c = kept_are_nobodys
