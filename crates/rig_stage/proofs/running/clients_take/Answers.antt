use Rattle.std.proofs.Common.{◌≡◌, ℕ, refl, ◌∙◌, subst, arith, rules}
use Rattle.std.specs.List.{range_with_len}
use Rattle.rig_runs.specs.Stage.{clients_take}
use Rattle.rig_stage.specs.Running.{Moves}
use Rattle.rig_stage.proofs.Going.{stays, moved_as, moved_then, clients_take-none, clients_take-more}
use Rattle.rig_stage.proofs.running.clients_take.Goals as goal

pub loop-index-init : goal.loop-index-init
loop-index-init g c = record { ready = record { ready = c.requires; greatest = refl }; met = moved_as _ (λ p past kept. clients_take-none p past) (stays c.args.bench.now) }

pub loop-index-preserved : goal.loop-index-preserved
loop-index-preserved g c =
    let i = c.loop-index.invariant in
    let took = c.client_takes.ensures in
    record {
      ready = record { ready = took.ready.ready; greatest = took.ready.greatest ∙ i.ready.greatest };
      met = moved_as _ (λ p past kept. clients_take-more p c.loop-index.index _ past (omega (arith, c.from.ensures))) (moved_then i.met took.met);
    }

pub returns-clause-met : goal.returns-clause-met
returns-clause-met g c =
    let done : c.loop-index.index ≡ c.args.clients = search rules in
    let Took : ℕ → Type 0 = λ count. Moves g.B.Bench.keeps g.B.Bench.runs (λ p past. clients_take p (range_with_len 1 count) past) c.args.bench.now c.loop-index.bench in
    subst Took done c.loop-index.invariant.met
