use Rattle.std.proofs.Common.{◌≡◌, ◌<◌, ◌++◌, ℕ, List, length, ap, sym, ◌∙◌, subst}
use Rattle.outbox.specs.Fronts.{IsFrontOf}
use Rattle.qmi_state.specs.Core.{QmiCore}
use Rattle.many_cores.proofs.Places.{some_at, got_at}
use Rattle.many_core.specs.Core.{ManyCore, Stands, modem_queue}
use Rattle.many_core.proofs.Meeting.{value}
use Rattle.many_core.proofs.Shown.{modem_waits}
use Rattle.many_core.proofs.many.ManyCore.queued_modem.Goals as goal

pub returns-clause-text : goal.returns-clause-text
returns-clause-text c = λ events. subst (λ (v : ManyCore). Stands events v → IsFrontOf c.queued_modem.result.now (modem_queue v c.args.device events)) c.self.view_is (λ S.
    let cores : List QmiCore = c.self.inside.cores in
    let d = c.args.device in
    let within : d < length cores = subst (λ (v : ManyCore). d < length v.core.cores) (sym c.self.view_is) c.requires in
    let core = some_at cores d within in
    let told = modem_waits (value c.self.inside.paths c.self.inside.limits cores c.self.inside.seats) events S d core.0 (got_at cores d core.0 within core.1) in
    subst (λ (l : List ℕ). IsFrontOf c.queued_modem.result.now l) told (subst (λ (k : QmiCore). IsFrontOf c.queued_modem.result.now k.state.beside.traffic.waiting) (c.at.ensures core.0 core.1) c.queued_modem.ensures.queue))
