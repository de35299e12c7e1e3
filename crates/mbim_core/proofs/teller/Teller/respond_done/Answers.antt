use Rattle.std.proofs.Common.{◌≡◌, ℕ, ◌<◌, ◌^◌, Bool, true, false, List, Option, is_some, ap, sym, ◌∙◌, arith}
use Rattle.mbim_frame.specs.declared.bodies.DoneHead.{DoneHead}
use Rattle.mbim_frame.specs.declared.kind.MessageKind.TheVariants.{CommandDone}
use Rattle.mbim_frame.specs.Bodies.{is_done}
use Rattle.mbim_frame.specs.Kinds.{kind_number}
use Rattle.mbim_frame.specs.Writing.{unsplit}
use Rattle.mbim_proxy.specs.FromModem.{IsDone, heard_if}
use Rattle.mbim_proxy.specs.Setup.{Setup}
use Rattle.mbim_state.specs.declared.asked.Asked.{Asked}
use Rattle.mbim_state.specs.Core.{setup_of}
use Rattle.mbim_state.specs.Transitions.{is_for, answer, hear_as}
use Rattle.mbim_core.specs.State.{state_of}
use Rattle.mbim_core.proofs.Hearing.{is_done_with, done_number}
use Rattle.mbim_core.proofs.Texts.{read_done_is}
use Rattle.mbim_core.proofs.teller.Teller.respond_done.Goals as goal

pub returns-in-Some-default-Command-clause-told : goal.returns-in-Some-default-Command-clause-told
returns-in-Some-default-Command-clause-told c =
    let s : Setup = setup_of c.args.side.now in
    let m : List ℕ = unsplit (kind_number CommandDone) c.args.number c.args.body.now in
    let within : c.args.number < 2 ^ 32 = omega (arith, c.ranges.number.fits) in
    let test : is_done c.args.body.now ≡ true = read_done_is c.args.body.now (ap (λ (o : Option DoneHead). is_some o) (sym c.read.ensures) ∙ c.if-is_none.ensures) in
    c.tell_done.ensures.told m (is_done_with c.args.number c.args.body.now within c.requires.short)
    ∙ sym (ap (λ (a : Asked). answer s a c.in-Some-default-Command.name m (state_of c.args.connections.now c.settle.new.side)) c.in-Some-default-Command.field-0-1-is)
    ∙ sym ((c.in-Some-default-Command.ensures.settles c.args.connections.now).answered s m (done_number c.args.number c.args.body.now within c.requires.short))
    ∙ sym (ap (λ (b : Bool). hear_as s (heard_if b IsDone) m (state_of c.args.connections.now c.args.side.now)) test)

pub returns-in-Some-default-Open-clause-told : goal.returns-in-Some-default-Open-clause-told
returns-in-Some-default-Open-clause-told c =
    let never : false ≡ true = sym (ap (λ (a : Asked). is_for IsDone a) c.in-Some-default-Open.field-0-1-is) ∙ (c.in-Some-default-Open.ensures.settles c.args.connections.now).fits in absurd (cc)

pub returns-in-None-clause-told : goal.returns-in-None-clause-told
returns-in-None-clause-told c =
    let s : Setup = setup_of c.args.side.now in
    let m : List ℕ = unsplit (kind_number CommandDone) c.args.number c.args.body.now in
    let within : c.args.number < 2 ^ 32 = omega (arith, c.ranges.number.fits) in
    let test : is_done c.args.body.now ≡ true = read_done_is c.args.body.now (ap (λ (o : Option DoneHead). is_some o) (sym c.read.ensures) ∙ c.if-is_none.ensures) in
    c.in-None.ensures.settles c.args.connections.now s m (done_number c.args.number c.args.body.now within c.requires.short) ∙ sym (ap (λ (b : Bool). hear_as s (heard_if b IsDone) m (state_of c.args.connections.now c.args.side.now)) test)
