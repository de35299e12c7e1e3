use Rattle.std.proofs.Common.{ℕ, true, false, ap, sym, ◌∙◌, ne_eqb, if◌then◌else◌, ◌==◌, length}
use Rattle.std.proofs.lemmas.Bool.{eq-eqb}
use Rattle.mbim_frame.specs.declared.head.MHead.{MHead}
use Rattle.mbim_frame.specs.declared.kind.MessageKind.TheVariants.{OpenDone}
use Rattle.mbim_frame.specs.declared.status.TheConstants.{FAILURE}
use Rattle.mbim_frame.specs.Kinds.{kind_number}
use Rattle.mbim_frame.specs.Numbers.{u32_at}
use Rattle.mbim_proxy.specs.Setup.{Setup}
use Rattle.mbim_state.specs.declared.asked.Asked.{Asked}
use Rattle.mbim_state.specs.Core.{setup_of}
use Rattle.mbim_state.specs.Transitions.{ends_opening, answer}
use Rattle.mbim_core.specs.State.{state_of}
use Rattle.mbim_core.proofs.Hearing.{error_of}
use Rattle.mbim_core.proofs.teller.Teller.hear_error.Goals as goal

pub returns-then-message-ne16-clause-told : goal.returns-then-message-ne16-clause-told
returns-then-message-ne16-clause-told c = sym (error_of (setup_of c.args.side.now) c.args.message.now (state_of c.args.connections.now c.args.side.now) c.requires.kind false (ne_eqb _ _ c.if-message-ne16.true))

pub returns-in-Some-default-Open-clause-told : goal.returns-in-Some-default-Open-clause-told
returns-in-Some-default-Open-clause-told c =
    let s : Setup = setup_of c.args.side.now in
    c.end_opening.ensures.told
    ∙ ap (λ (t : Setup). ends_opening t FAILURE (state_of c.args.connections.now c.settle.new.side)) c.settle.ensures.setup
    ∙ ap (λ (n : ℕ). ends_opening s n (state_of c.args.connections.now c.settle.new.side)) (sym (ap (λ (n : ℕ). if n == kind_number OpenDone then u32_at c.args.message.now 12 else FAILURE) c.requires.kind))
    ∙ sym (ap (λ (a : Asked). answer s a c.in-Some-default-Open.field-0-0 c.args.message.now (state_of c.args.connections.now c.settle.new.side)) c.in-Some-default-Open.field-0-1-is)
    ∙ sym ((c.in-Some-default-Open.ensures.settles c.args.connections.now).answered s c.args.message.now (sym (ap (λ (h : MHead). h.number) c.read.ensures)))
    ∙ sym (error_of s c.args.message.now (state_of c.args.connections.now c.args.side.now) c.requires.kind true (eq-eqb (length c.args.message.now) 16 c.if-message-ne16.false))

pub returns-in-Some-default-Command-clause-told : goal.returns-in-Some-default-Command-clause-told
returns-in-Some-default-Command-clause-told c =
    let s : Setup = setup_of c.args.side.now in
    c.tell_error.ensures.told
    ∙ sym (ap (λ (a : Asked). answer s a c.in-Some-default-Command.name c.args.message.now (state_of c.args.connections.now c.settle.new.side)) c.in-Some-default-Command.field-0-1-is)
    ∙ sym ((c.in-Some-default-Command.ensures.settles c.args.connections.now).answered s c.args.message.now (sym (ap (λ (h : MHead). h.number) c.read.ensures)))
    ∙ sym (error_of s c.args.message.now (state_of c.args.connections.now c.args.side.now) c.requires.kind true (eq-eqb (length c.args.message.now) 16 c.if-message-ne16.false))

pub returns-in-None-clause-told : goal.returns-in-None-clause-told
returns-in-None-clause-told c =
    let s : Setup = setup_of c.args.side.now in
    c.in-None.ensures.settles c.args.connections.now s c.args.message.now (sym (ap (λ (h : MHead). h.number) c.read.ensures))
    ∙ sym (error_of s c.args.message.now (state_of c.args.connections.now c.args.side.now) c.requires.kind true (eq-eqb (length c.args.message.now) 16 c.if-message-ne16.false))
