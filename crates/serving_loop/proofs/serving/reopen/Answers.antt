use Rattle.std.proofs.Common.{sym, ◌∙◌, arith}
use Rattle.many_io.specs.Record.{events}
use Rattle.serving_loop.proofs.Carrying.{Carries-none, Carries-call}
use Rattle.serving_loop.proofs.Modem.{not_missed, reopened, reopen_failed, differs_behind}
use Rattle.serving_loop.proofs.serving.reopen.Goals as goal

pub returns-then-not-away-clause-carries : goal.returns-then-not-away-clause-carries
returns-then-not-away-clause-carries g c = λ p until turns.
    Carries-none _ _ _ (λ calls may. not_missed may c.requires.device (sym c.away.ensures ∙ c.if-not-away.true))

pub note-requires-clause-can : goal.note-requires-clause-can
note-requires-clause-can g c = record { hung_up = c.requires.asked; may_come = c.requires.device }

pub returns-in-Ok-clause-carries : goal.returns-in-Ok-clause-carries
returns-in-Ok-clause-carries g c = λ p until turns.
    let device = c.args.device in
    let missed = sym c.away.ensures ∙ c.if-not-away.false in
    let still = (g.C.ManyProxyCore.face c.note.new.self.core).away in
    Carries-call _ _ _ _ _ c.in-Ok.ensures.calls (λ calls may.
    reopened may c.requires.device c.note.new.self still missed
    (λ d behind within. c.note.ensures.makes.others.same d (omega (arith, within, may.serving.stands.shows.devices)) (differs_behind device d behind))
    c.requires.asked
    (c.note.ensures.stands p (events calls) may.serving.stands)
    c.note.ensures.blocked (c.note.ensures.modems ∙ c.remove.ensures) c.note.ensures.emptied)

pub returns-in-Ok-clause-asked : goal.returns-in-Ok-clause-asked
returns-in-Ok-clause-asked g c = c.note.ensures.makes.dropped ∙ c.requires.asked

pub returns-in-Err-clause-carries : goal.returns-in-Err-clause-carries
returns-in-Err-clause-carries g c = λ p until turns.
    Carries-call _ _ _ _ _ c.in-Err.ensures.calls (λ calls may. reopen_failed may c.requires.device (sym c.away.ensures ∙ c.if-not-away.false))
