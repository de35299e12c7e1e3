use Rattle.std.proofs.Common.{◌≡◌, ◌<◌, sym, ◌∙◌, rules}
use Rattle.rig_stage.proofs.Going.{stays, moved_as, client_takes_none, client_takes_some}
use Rattle.transparency.proofs.relaying.client_takes.Goals as goal

pub returns-then-count-eq0-clause-met : goal.returns-then-count-eq0-clause-met
returns-then-count-eq0-clause-met g c =
    let none : c.count_waiting-count.result ≡ 0 = search rules in
    moved_as _ (λ p past kept.
    client_takes_none p past (g.B.Bench.face c.args.bench.now) 1 (g.met.B.Bench.shows p past c.args.bench.now kept).1 (λ absent. g.met.B.Bench.nobody c.args.bench.now 1 absent c.requires.asked)
    (sym c.count_waiting-count.ensures ∙ none)) (stays c.args.bench.now)

pub returns-clause-met : goal.returns-clause-met
returns-clause-met g c =
    let some : 0 < c.count_waiting-count.result = search rules in
    moved_as _ (λ p past kept.
    client_takes_some p past (g.B.Bench.face c.args.bench.now) 1 c.count_waiting-count.result (g.met.B.Bench.shows p past c.args.bench.now kept).1 (λ absent. g.met.B.Bench.nobody c.args.bench.now 1 absent c.requires.asked)
    (sym c.count_waiting-count.ensures) some) c.meet.ensures.met
