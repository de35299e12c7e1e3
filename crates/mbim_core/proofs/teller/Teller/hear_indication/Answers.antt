use Rattle.std.proofs.Common.{◌≡◌, ℕ, ◌≤◌, List, length, ap, sym, ◌∙◌, subst, arith}
use Rattle.mbim_fragments.specs.Assembling.{joining_behind, body_given}
use Rattle.mbim_frame.specs.Bodies.{is_indication}
use Rattle.mbim_proxy.specs.FromModem.{IsIndication, heard_if}
use Rattle.mbim_state.specs.Core.{ModemSide, MbimState, setup_of}
use Rattle.mbim_state.specs.Transitions.{with_side, hear_as}
use Rattle.mbim_core.specs.State.{state_of, IsIndicationWith}
use Rattle.mbim_core.proofs.Hearing.{number_fits, indication_short, indication_part, indication_whole}
use Rattle.mbim_core.proofs.teller.Teller.hear_indication.Goals as goal

pub returns-then-message-lt20-clause-told : goal.returns-then-message-lt20-clause-told
returns-then-message-lt20-clause-told c = indication_short (setup_of c.args.side.now) c.args.message.now (state_of c.args.connections.now c.args.side.now) c.requires.kind c.if-message-lt20.true

pub returns-else-join_indication-clause-told : goal.returns-else-join_indication-clause-told
returns-else-join_indication-clause-told c =
    let was : MbimState = state_of c.args.connections.now c.args.side.now in
    (ap (λ (side : ModemSide). with_side side was) c.join_indication.ensures.side
    ∙ indication_part (setup_of was.beside) c.args.message.now was c.requires.kind c.if-message-lt20.false (sym c.join_indication.ensures.whole ∙ c.if-join_indication.false))

pub returns-then-join_indication-clause-told : goal.returns-then-join_indication-clause-told
returns-then-join_indication-clause-told c =
    let was : MbimState = state_of c.args.connections.now c.args.side.now in
    let body : List ℕ = body_given (joining_behind 65536 was.beside.begun.indication c.args.message.now) c.args.whole.now in
    let given : c.as_slice.result.now ≡ body = c.as_slice.ensures.bytes ∙ c.join_indication.ensures.body in
    let side : ModemSide = c.join_indication.new.self in
    let H = indication_whole (setup_of was.beside) c.args.message.now was c.requires.kind c.if-message-lt20.false (sym c.join_indication.ensures.whole ∙ c.if-join_indication.true) c.args.whole.now
    (number_fits c.args.message.now (λ k. omega (arith, c.type_inv.message k))) (subst (λ (l : List ℕ). length l ≤ 65536) c.join_indication.ensures.body c.as_slice.ensures.short)
    in
    (c.indicate.ensures.told H.message (subst (λ (l : List ℕ). IsIndicationWith l H.message) (sym given) H.has_it)
    ∙ ap (λ (l : List ℕ). hear_as (setup_of side) (heard_if (is_indication l) IsIndication) H.message (with_side side was)) given
    ∙ ap (λ (b : ModemSide). hear_as (setup_of b) (heard_if (is_indication body) IsIndication) H.message (with_side b was)) c.join_indication.ensures.side
    ∙ sym H.heard)
