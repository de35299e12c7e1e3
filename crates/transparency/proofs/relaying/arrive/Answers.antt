use Rattle.std.proofs.Common.{ℕ, ◌≤◌, List, ◌∷◌, length, take, refl, sym, ap, ◌∙◌, subst, rules}
use Rattle.std.proofs.lemmas.List.{take_all}
use Rattle.proxy_history.specs.Events.{ModemPiece}
use Rattle.lone_client.specs.Relay.{hear_each}
use Rattle.rig_stage.specs.Running.{Moves}
use Rattle.rig_stage.proofs.Going.{stays, moved_as, moved_then}
use Rattle.transparency.proofs.OnBench.{hear_none, hear_more, take_next}
use Rattle.transparency.proofs.relaying.arrive.Goals as goal

pub loop-message-init : goal.loop-message-init
loop-message-init g c = record { ready = record { ready = c.requires; greatest = refl }; met = moved_as _ (λ p past kept. hear_none past) (stays c.args.bench.now) }

pub loop-message-preserved : goal.loop-message-preserved
loop-message-preserved g c =
    let i = c.loop-message.invariant in
    let messages : List (List ℕ) = c.args.messages.now in
    let place : ℕ = c.loop-message.message-index in
    let one : List ℕ = c.message-item.result in
    let next = take_next messages place one c.loop-message-test.true c.message-item.is in
    record {
      ready = record { ready = c.meet.ensures.ready; greatest = c.meet.ensures.greatest ∙ i.ready.greatest };
      met = moved_as _ (λ p past kept. ap (λ (m : List ℕ). ModemPiece m ∷ hear_each (take place messages) past) c.as_slice-piece.ensures ∙ hear_more (take place messages) one past ∙ ap (λ (l : List (List ℕ)). hear_each l past) (sym next))
          (moved_then i.met c.meet.ensures.met);
    }

pub returns-clause-met : goal.returns-clause-met
returns-clause-met g c =
    let messages : List (List ℕ) = c.args.messages.now in
    let all : length messages ≤ c.loop-message.message-index = search rules in
    let Heard : List (List ℕ) → Type 0 = λ heard. Moves g.B.Bench.keeps g.B.Bench.runs (λ p past. hear_each heard past) c.args.bench.now c.loop-message.bench in
    subst Heard (take_all c.loop-message.message-index messages all) c.loop-message.invariant.met
