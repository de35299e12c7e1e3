use Rattle.std.proofs.Common.{◌≡◌, List, ℕ, rules, sym, ◌∙◌, ap, subst, reverse}
use Rattle.std.specs.List.{concat}
use Rattle.lone_client.specs.Relay.{asked_by}
use Rattle.transparency.proofs.Texts.{says_newest, asked_newest}
use Rattle.transparency.proofs.modem.ModemPeerAnswerer.answer.Goals as goal

pub returns-clause-says : goal.returns-clause-says
returns-clause-says g c = λ texts met.
    let size = g.S.Framing.Framing.size in
    let modem = g.S.Simulated.answering c.args.self.now.profile in
    let hears = c.in_ok-messages.ensures modem (asked_by size (reverse texts)) met in
    let slice : c.deref.result.now ≡ c.in_ok-messages.messages.items = search rules in
    c.in_ok-reply.ensures ∙ ap concat (slice ∙ hears.are) ∙ sym (says_newest size modem texts c.args.text.now)

pub returns-clause-met : goal.returns-clause-met
returns-clause-met g c = λ texts met.
    let size = g.S.Framing.Framing.size in
    let modem = g.S.Simulated.answering c.args.self.now.profile in
    let hears = c.in_ok-messages.ensures modem (asked_by size (reverse texts)) met in
    subst (λ (asked : List (List ℕ)). g.S.Sim.keeps modem asked c.ask_all.new.sim) (asked_newest size modem texts c.args.text.now) hears.kept
