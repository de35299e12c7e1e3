use Rattle.proxy_history.proofs.SoundLaws.{in_use_differ}
use Rattle.proxy_history.proofs.laws.requests_in_use_differ.Goals as goal

pub returns : goal.returns
returns c = λ limits facts within sound. in_use_differ limits within facts sound
