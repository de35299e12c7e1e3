use Rattle.std.proofs.Common.{List, Option, ap, sym, ◌∙◌}
use Rattle.qmi_state.specs.Core.{QmiCore}
use Rattle.many_cores.proofs.Places.{some_at, got_at}
use Rattle.many_served.specs.Face.{away_of}
use Rattle.many_served.proofs.served.ServedCoreManyProxyCore.away.Goals as goal

pub returns : goal.returns
returns c =
    let cores : List QmiCore = c.args.self.now.core.core.cores in
    let core = some_at cores c.args.device c.requires in
    c.away.ensures.away core.0 core.1 ∙ sym (ap (λ (o : Option QmiCore). away_of o) (got_at cores c.args.device core.0 c.requires core.1))
