use Rattle.std.proofs.Common.{◌≡◌, ◌<◌, List, length, ap, sym, ◌∙◌, subst, arith}
use Rattle.qmi_state.specs.Core.{QmiCore}
use Rattle.many_cores.proofs.Places.{some_at, got_at}
use Rattle.many_core.specs.Core.{ManyCore, Stands, time_in, time_at}
use Rattle.many_core.proofs.Meeting.{value}
use Rattle.many_core.proofs.Shown.{time_is, shown_time}
use Rattle.many_core.proofs.many.ManyCore.time.Goals as goal

pub returns-clause-time : goal.returns-clause-time
returns-clause-time c =
    let cores : List QmiCore = c.self.inside.cores in
    let some : 0 < length cores = omega (arith, c.self.invariant.some, c.self.invariant.count) in
    let core = some_at cores 0 some in
    c.time.ensures ∙ ap (λ (k : QmiCore). k.state.beside.time) (c.at.ensures core.0 core.1) ∙ time_is cores core.0 some core.1 ∙ ap (λ (v : ManyCore). time_in v.core.cores) c.self.view_is

pub returns-clause-told : goal.returns-clause-told
returns-clause-told c = λ events. subst (λ (v : ManyCore). Stands events v → c.time.result ≡ time_at v events) c.self.view_is (λ S.
    let cores : List QmiCore = c.self.inside.cores in
    let some : 0 < length cores = omega (arith, c.self.invariant.some, c.self.invariant.count) in
    let core = some_at cores 0 some in
    let told = shown_time (value c.self.inside.paths c.self.inside.limits cores c.self.inside.seats) events S core.0 (got_at cores 0 core.0 some core.1) in
    c.time.ensures ∙ ap (λ (k : QmiCore). k.state.beside.time) (c.at.ensures core.0 core.1) ∙ told)
