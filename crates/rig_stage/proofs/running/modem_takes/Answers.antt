use Rattle.std.proofs.Common.{◌≡◌, ◌<◌, sym, ◌∙◌, rules}
use Rattle.rig_stage.proofs.Going.{stays, moved_as, modem_takes_none, modem_takes_some}
use Rattle.rig_stage.proofs.running.modem_takes.Goals as goal

pub returns-then-count-eq0-clause-met : goal.returns-then-count-eq0-clause-met
returns-then-count-eq0-clause-met g c =
    let none : c.count_modem_waiting-count.result ≡ 0 = search rules in
    moved_as _ (λ p past kept. modem_takes_none p past (g.B.Bench.face c.args.bench.now) (g.met.B.Bench.shows p past c.args.bench.now kept).1 (sym c.count_modem_waiting-count.ensures ∙ none)) (stays c.args.bench.now)

pub returns-clause-met : goal.returns-clause-met
returns-clause-met g c =
    let some : 0 < c.count_modem_waiting-count.result = search rules in
    moved_as _ (λ p past kept. modem_takes_some p past (g.B.Bench.face c.args.bench.now) c.count_modem_waiting-count.result (g.met.B.Bench.shows p past c.args.bench.now kept).1 (sym c.count_modem_waiting-count.ensures) some)
    c.meet.ensures.met
