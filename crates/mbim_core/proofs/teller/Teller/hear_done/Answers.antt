use Rattle.std.proofs.Common.{◌≡◌, ℕ, ◌≤◌, List, length, ap, sym, ◌∙◌, subst, arith}
use Rattle.mbim_proxy.specs.FromModem.{IsDone, heard_if}
use Rattle.mbim_fragments.specs.Assembling.{joining_behind, body_given}
use Rattle.mbim_frame.specs.declared.head.MHead.{MHead}
use Rattle.mbim_frame.specs.declared.kind.MessageKind.TheVariants.{CommandDone}
use Rattle.mbim_frame.specs.Bodies.{is_done}
use Rattle.mbim_frame.specs.Head.{number_of}
use Rattle.mbim_frame.specs.Kinds.{kind_number}
use Rattle.mbim_frame.specs.Writing.{unsplit}
use Rattle.mbim_state.specs.Core.{ModemSide, MbimState, setup_of}
use Rattle.mbim_state.specs.Transitions.{with_side, hear_as}
use Rattle.mbim_core.specs.State.{state_of}
use Rattle.mbim_core.proofs.Hearing.{number_fits, done_short, done_part, done_whole}
use Rattle.mbim_core.proofs.teller.Teller.hear_done.Goals as goal

pub returns-then-message-lt20-clause-told : goal.returns-then-message-lt20-clause-told
returns-then-message-lt20-clause-told c = done_short (setup_of c.args.side.now) c.args.message.now (state_of c.args.connections.now c.args.side.now) c.requires.kind c.if-message-lt20.true

pub returns-else-join_answer-clause-told : goal.returns-else-join_answer-clause-told
returns-else-join_answer-clause-told c =
    let was : MbimState = state_of c.args.connections.now c.args.side.now in
    (ap (λ (side : ModemSide). with_side side was) c.join_answer.ensures.side
    ∙ done_part (setup_of was.beside) c.args.message.now was c.requires.kind c.if-message-lt20.false (sym c.join_answer.ensures.whole ∙ c.if-join_answer.false))

pub returns-then-join_answer-clause-told : goal.returns-then-join_answer-clause-told
returns-then-join_answer-clause-told c =
    let was : MbimState = state_of c.args.connections.now c.args.side.now in
    let m : List ℕ = c.args.message.now in
    let body : List ℕ = body_given (joining_behind 65536 was.beside.begun.answer m) c.args.whole.now in
    let given : c.as_slice.result.now ≡ body = c.as_slice.ensures.bytes ∙ c.join_answer.ensures.body in
    let side : ModemSide = c.join_answer.new.self in
    (c.respond_done.ensures.told
    ∙ ap (λ (l : List ℕ). hear_as (setup_of side) (heard_if (is_done l) IsDone) (unsplit (kind_number CommandDone) c.read.result.number l) (with_side side was)) given
    ∙ ap (λ (h : MHead). hear_as (setup_of side) (heard_if (is_done body) IsDone) (unsplit (kind_number CommandDone) h.number body) (with_side side was)) c.read.ensures
    ∙ ap (λ (b : ModemSide). hear_as (setup_of b) (heard_if (is_done body) IsDone) (unsplit (kind_number CommandDone) (number_of m) body) (with_side b was)) c.join_answer.ensures.side
    ∙ sym (done_whole (setup_of was.beside) m was c.requires.kind c.if-message-lt20.false (sym c.join_answer.ensures.whole ∙ c.if-join_answer.true) c.args.whole.now
    (number_fits m (λ k. omega (arith, c.type_inv.message k))) (subst (λ (l : List ℕ). length l ≤ 65536) c.join_answer.ensures.body c.as_slice.ensures.short)))
