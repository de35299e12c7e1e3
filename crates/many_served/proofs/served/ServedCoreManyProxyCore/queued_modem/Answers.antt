use Rattle.std.proofs.Common.{List, Option, ap, sym, subst}
use Rattle.outbox.specs.Fronts.{IsFrontOf}
use Rattle.qmi_state.specs.Core.{QmiCore}
use Rattle.qmi_state.specs.Transitions.{qmi_handlers}
use Rattle.many_state.specs.Core.{modem_queue_of}
use Rattle.many_cores.proofs.Places.{some_at, got_at}
use Rattle.many_served.proofs.served.ServedCoreManyProxyCore.queued_modem.Goals as goal

pub returns : goal.returns
returns c =
    let cores : List QmiCore = c.args.self.now.core.core.cores in
    let core = some_at cores c.args.device c.requires in
    subst (λ (o : Option QmiCore). IsFrontOf c.queued_modem.result.now (modem_queue_of qmi_handlers o)) (sym (got_at cores c.args.device core.0 c.requires core.1)) (c.queued_modem.ensures.queue core.0 core.1)
