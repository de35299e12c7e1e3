use Rattle.std.proofs.Common.{◌≡◌, List, ℕ, subst, ◌∙◌, rules}
use Rattle.lone_client.specs.Relay.{hear_each}
use Rattle.rig_stage.specs.Running.{Moves}
use Rattle.transparency.proofs.OnBench.{relays}
use Rattle.transparency.proofs.relaying.relay.Goals as goal

pub returns-clause-relays : goal.returns-clause-relays
returns-clause-relays g c =
    let bench = g.B.Bench in
    let slice : c.deref.result.now ≡ c.in_ok-messages.messages.items = search rules in
    let asked : c.as_slice.result.now ≡ (bench.face c.meet.new.bench).modem_queue = c.as_slice.ensures ∙ c.in_ok-queue.ensures ∙ c.modem_parts.ensures in
    relays c.args.text.now bench.face c.as_slice.result.now c.in_ok-messages.messages.items c.in_ok-reply.reply (λ p past b kept. (g.met.B.Bench.shows p past b kept).1)
    c.meet.ensures.met asked (λ modem asked kept. c.in_ok-messages.ensures modem asked kept) c.modem_takes.ensures.met
    (subst (λ (l : List (List ℕ)). Moves bench.keeps bench.runs (λ p past. hear_each l past) c.modem_takes.new.bench c.arrive.new.bench) slice c.in_ok-arrive.ensures.met) (c.in_ok-reply.ensures ∙ c.parts.ensures) (λ absent. g.met.B.Bench.nobody c.arrive.new.bench 1 absent c.arrive.ensures.ready.ready.asked)
    c.client_takes.ensures.met
