use Rattle.std.proofs.Common.{refl}
use Rattle.tunnel_session.proofs.session.ended.Goals as goal

pub returns : goal.returns
returns c = refl
