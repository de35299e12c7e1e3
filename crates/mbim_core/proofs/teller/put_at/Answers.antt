use Rattle.std.proofs.Common.{◌≡◌, ℕ, Bool, true, List, ◌++◌, ap, sym, ◌∙◌, refl}
use Rattle.connections.specs.Table.{Table, connection_in, finds_room, tells}
use Rattle.proxy_state.specs.Step.{given_up_unless}
use Rattle.proxy_state.proofs.Telling.{tell_is}
use Rattle.mbim_state.specs.Core.{Client, ModemSide}
use Rattle.mbim_state.specs.Transitions.{give_up}
use Rattle.mbim_core.specs.State.{state_of}
use Rattle.mbim_core.proofs.teller.put_at.Goals as goal

pub returns-then-tell_at-clause-told : goal.returns-then-tell_at-clause-told
returns-then-tell_at-clause-told c =
    let bytes : List ℕ = c.args.head.now ++ c.args.rest.now in
    let old : Table Client = c.args.connections.now in
    let side : ModemSide = c.args.side.now in
    let fits : true ≡ finds_room bytes (connection_in c.args.name old.present) = sym c.if-tell_at.true ∙ c.tell_at.ensures.stays in
    ap (λ (t : Table Client). state_of t side) c.tell_at.ensures.told
    ∙ ap (λ (b : Bool). state_of (tells c.args.name bytes old) (given_up_unless give_up b c.args.name side)) fits
    ∙ sym (tell_is give_up (λ _. bytes) c.args.name bytes (state_of old side) (λ k at. refl))
