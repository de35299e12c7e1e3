use Rattle.std.proofs.Common.{ℕ, ◌<◌, List, length, ap, sym, ◌∙◌, is_some}
use Rattle.connections.specs.Table.{Connection}
use Rattle.connections.proofs.Named.{inside, found_at, none_found}
use Rattle.proxy_state.specs.Chosen.{StandsAt}
use Rattle.proxy_state.proofs.Places.{connection_at, stands_at}
use Rattle.mbim_state.specs.Core.{Client}
use Rattle.mbim_state.specs.Transitions.{is_waiting}
use Rattle.mbim_clients.proofs.askers.waits.Goals as goal

pub returns-in-Some : goal.returns-in-Some
returns-in-Some c =
    let present : List (Connection Client) = c.args.connections.now.present in
    let place : ℕ = c.in-Some.place in
    let k : Connection Client = connection_at c.client_at.result.now present place in
    let here : place < length present = inside c.args.name present place c.in-Some.ensures.place k in
    let at : StandsAt k present place = stands_at c.client_at.result.now present place here in
    c.is_some.ensures
    ∙ ap (λ o. is_some o) c.waits.ensures
    ∙ ap (λ (client : Client). is_some client.waits) (c.client_at.ensures k at)
    ∙ sym (ap is_waiting (found_at c.args.name present place c.in-Some.ensures.place k at))

pub returns-in-None : goal.returns-in-None
returns-in-None c = sym (ap is_waiting (none_found c.args.name c.args.connections.now.present (sym c.in-None.ensures.place)))
