use Rattle.std.proofs.Common.{◌≡◌, ◌<◌, List, length, get_or, ap, sym, ◌∙◌, subst, Some}
use Rattle.qmi_state.specs.Core.{QmiCore}
use Rattle.many_cores.proofs.Places.{some_at, got_at}
use Rattle.many_core.specs.Core.{ManyCore}
use Rattle.many_core.proofs.Silent.{all_silent}
use Rattle.many_core.proofs.Waits.{silent_at}
use Rattle.many_core.proofs.many.ManyCore.first_waiting_at.Goals as goal

-- nothing waits for anybody who is there for the device
pub returns-in_default-clause-others : goal.returns-in_default-clause-others
returns-in_default-clause-others c = λ place seat low high at is.
    let d = c.args.device in
    let cores : List QmiCore = c.args.self.now.core.cores in
    let within : d < length cores = c.requires.device in
    let core = some_at cores d within in
    let its : c.at-core.result.now ≡ core.0 = c.at-core.ensures core.0 (subst (λ (v : ManyCore). core.0 ≡ get_or v.core.cores d core.0) (sym c.self.view_is) core.1) in
    silent_at cores d c.at-core.result.now (got_at cores d core.0 within core.1 ∙ ap Some (sym its)) (λ name. all_silent name c.at-core.result.now.state.table.present c.in_default.ensures.place) seat is
