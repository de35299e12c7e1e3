use Rattle.std.proofs.Common.{ℕ, true, false, ap, sym, ◌∙◌, ne_eqb, if◌then◌else◌, ◌==◌, length}
use Rattle.std.proofs.lemmas.Bool.{eq-eqb}
use Rattle.mbim_frame.specs.declared.head.MHead.{MHead}
use Rattle.mbim_frame.specs.declared.kind.MessageKind.TheVariants.{OpenDone}
use Rattle.mbim_frame.specs.declared.status.TheConstants.{FAILURE}
use Rattle.mbim_frame.specs.Kinds.{kind_number}
use Rattle.mbim_frame.specs.Numbers.{u32_at}
use Rattle.mbim_proxy.specs.Setup.{Setup}
use Rattle.mbim_state.specs.Core.{setup_of}
use Rattle.mbim_state.specs.Transitions.{ends_opening}
use Rattle.mbim_core.specs.State.{state_of}
use Rattle.mbim_core.proofs.Hearing.{open_done_of}
use Rattle.mbim_core.proofs.Responses.{settled_none, settled_open}
use Rattle.mbim_core.proofs.teller.Teller.hear_open_done.Goals as goal

pub returns-then-message-ne16-clause-told : goal.returns-then-message-ne16-clause-told
returns-then-message-ne16-clause-told c = sym (open_done_of (setup_of c.args.side.now) c.args.message.now (state_of c.args.connections.now c.args.side.now) c.requires.kind false (ne_eqb _ _ c.if-message-ne16.true))

pub returns-then-is_some-clause-told : goal.returns-then-is_some-clause-told
returns-then-is_some-clause-told c =
    let s : Setup = setup_of c.args.side.now in
    c.end_opening.ensures.told
    ∙ ap (λ (t : Setup). ends_opening t c.u32_at.result (state_of c.args.connections.now c.settle-settled.new.side)) c.settle-settled.ensures.setup
    ∙ ap (λ (n : ℕ). ends_opening s n (state_of c.args.connections.now c.settle-settled.new.side)) (c.u32_at.ensures ∙ sym (ap (λ (n : ℕ). if n == kind_number OpenDone then u32_at c.args.message.now 12 else FAILURE) c.requires.kind))
    ∙ sym (settled_open c.read.result.number (state_of c.args.connections.now c.args.side.now) (state_of c.args.connections.now c.settle-settled.new.side) c.settle-settled.result (sym c.is_some.ensures ∙ c.if-is_some.true) (c.settle-settled.ensures.settles c.args.connections.now) s c.args.message.now (sym (ap (λ (h : MHead). h.number) c.read.ensures)))
    ∙ sym (open_done_of s c.args.message.now (state_of c.args.connections.now c.args.side.now) c.requires.kind true (eq-eqb (length c.args.message.now) 16 c.if-message-ne16.false))

pub returns-else-is_some-clause-told : goal.returns-else-is_some-clause-told
returns-else-is_some-clause-told c =
    let s : Setup = setup_of c.args.side.now in
    settled_none _ c.read.result.number (state_of c.args.connections.now c.args.side.now) (state_of c.args.connections.now c.settle-settled.new.side) c.settle-settled.result (sym c.is_some.ensures ∙ c.if-is_some.false) (c.settle-settled.ensures.settles c.args.connections.now) s c.args.message.now (sym (ap (λ (h : MHead). h.number) c.read.ensures))
    ∙ sym (open_done_of s c.args.message.now (state_of c.args.connections.now c.args.side.now) c.requires.kind true (eq-eqb (length c.args.message.now) 16 c.if-message-ne16.false))
