use Rattle.std.proofs.Common.{◌≡◌, ℕ, ◌+◌, ◌<◌, ◌==◌, false, List, [], ◌∷◌, length, refl, sym, subst, ◌∙◌, arith, rules}
use Rattle.std.proofs.lemmas.List.{nil_from_length}
use Rattle.proxy_history.specs.Connections.{contains}
use Rattle.many_io.specs.Record.{ManyCall, SentModem, events}
use Rattle.serving_loop.specs.Progress.{OffersModems}
use Rattle.serving_loop.specs.declared.server.Server.{Server}
use Rattle.serving_loop.proofs.Away.{stays-but, stays-then, was_there}
use Rattle.serving_loop.proofs.Carrying.{Carries-none, Carries-call, Carries-then}
use Rattle.serving_loop.proofs.Same.{as_before-met, as_before-called}
use Rattle.serving_loop.proofs.Offering.{contains-any}
use Rattle.serving_loop.proofs.Places.{not_zero, lent_some, lent_within}
use Rattle.serving_loop.proofs.Modem.{modem-blocked, modem-away, modem-empty, modem-sent_none, modem-sent, modem-failed}
use Rattle.serving_loop.proofs.offer.offer_modem.Goals as goal

pub returns-then-contains-clause-carries : goal.returns-then-contains-clause-carries
returns-then-contains-clause-carries g c = λ p until turns.
    let i = c.loop-device.invariant in
    Carries-then (i.carried p until turns)
    (Carries-none _ _ _ (λ calls all. modem-blocked all i.within (sym (contains-any c.args.device c.loop-device.server.modems) ∙ sym c.contains.ensures ∙ c.if-contains.true)))

pub returns-then-away-clause-carries : goal.returns-then-away-clause-carries
returns-then-away-clause-carries g c = λ p until turns.
    let i = c.loop-device.invariant in
    Carries-then (i.carried p until turns) (Carries-none _ _ _ (λ calls all. modem-away all i.within (sym c.away.ensures ∙ c.if-away.true)))

pub returns-then-is_empty-clause-carries : goal.returns-then-is_empty-clause-carries
returns-then-is_empty-clause-carries g c = λ p until turns.
    let i = c.loop-device.invariant in
    let none : c.queued_modem-queue.result.now ≡ [] = nil_from_length c.queued_modem-queue.result.now (search rules) in
    Carries-then (i.carried p until turns) (Carries-none _ _ _ (λ calls all. modem-empty all i.within (c.queued_modem-queue.ensures.some none)))

pub returns-in-Ok-eq0-clause-carries : goal.returns-in-Ok-eq0-clause-carries
returns-in-Ok-eq0-clause-carries g c = λ p until turns.
    let i = c.loop-device.invariant in
    let none : c.in-Ok-eq0.field-0 ≡ 0 = c.in-Ok-eq0.field-0-test in
    let bytes : List ℕ = c.queued_modem-queue.result.now in
    let some : 0 < length bytes = search rules in
    let now : Server (g.row.C.Denot) = record c.loop-device.server { modems = c.add.new.self } in
    let After : ℕ → List ManyCall → Type 0 = λ n calls. OffersModems g.C.ManyProxyCore.keeps g.C.ManyProxyCore.face p until turns (c.args.device + 1) now (SentModem c.args.device bytes n ∷ calls) in
    Carries-then (i.carried p until turns)
    (Carries-call _ _ _ _ _ c.in-Ok-eq0.ensures.calls (λ calls all. subst (λ (n : ℕ). After n calls) (sym none) (modem-sent_none all i.within bytes now some c.queued_modem-queue.ensures refl refl c.add.ensures refl)))

pub note-requires-clause-can : goal.note-requires-clause-can
note-requires-clause-can g c =
    let i = c.loop-device.invariant in record { hung_up = i.asked; may_come = (i.within, lent_within c.in-Ok.count c.queued_modem-queue.ensures c.in-Ok.ensures.within) }

pub note-requires-in-Err-clause-can : goal.note-requires-in-Err-clause-can
note-requires-in-Err-clause-can g c = let i = c.loop-device.invariant in record { hung_up = i.asked; may_come = i.within }

pub loop-device-preserved : goal.loop-device-preserved
loop-device-preserved g c =
    let i = c.loop-device.invariant in
    let bytes : List ℕ = c.queued_modem-queue.result.now in
    let some : 0 < length bytes = search rules in
    let no_names = i.asked in
    let taken : (c.in-Ok.count == 0) ≡ false = not_zero c.in-Ok.count c.in-Ok.count-test.1 in
    let free : contains c.args.device c.loop-device.server.modems ≡ false = sym (contains-any c.args.device c.loop-device.server.modems) ∙ sym c.contains.ensures ∙ c.if-contains.false in
    let there = sym c.away.ensures ∙ c.if-away.false in
    record {
      carried = λ p until turns.
          Carries-then (i.carried p until turns)
          (Carries-call _ _ _ _ _ c.in-Ok.ensures.calls (λ calls all.
          modem-sent all i.within bytes c.in-Ok.count c.note.new.self taken some c.queued_modem-queue.ensures no_names free
          (c.note.ensures.stands p (events calls) all.serving.stands)
          c.note.ensures.blocked c.note.ensures.modems c.note.ensures.emptied));
      asked = c.note.ensures.makes.dropped ∙ i.asked;
      same = as_before-called (as_before-met i.same c.note.ensures.known c.note.ensures.devices c.note.ensures.greatest) c.send_modem.ensures.own c.send_modem.ensures.names c.send_modem.ensures.devices;
      stays = stays-then i.same.devices i.stays (stays-but c.args.device c.note.ensures.makes.others there);
      within = omega (arith, i.within, c.note.ensures.devices);
    }

-- the modem is gone
pub returns-in-Err-clause-carries : goal.returns-in-Err-clause-carries
returns-in-Err-clause-carries g c = λ p until turns.
    let i = c.loop-device.invariant in
    let bytes : List ℕ = c.queued_modem-queue.result.now in
    let some : 0 < length bytes = search rules in
    let no_names = i.asked in
    Carries-then (i.carried p until turns)
    (Carries-call _ _ _ _ _ c.in-Err.ensures.calls (λ calls all.
    modem-failed all i.within bytes c.note-in-Err.new.self some c.queued_modem-queue.ensures no_names
    (c.note-in-Err.ensures.stands p (events calls) all.serving.stands)
    c.note-in-Err.ensures.blocked c.note-in-Err.ensures.modems c.note-in-Err.ensures.emptied))

pub returns-in-Err-clause-away : goal.returns-in-Err-clause-away
returns-in-Err-clause-away g c =
    let i = c.loop-device.invariant in
    let there = sym c.away.ensures ∙ c.if-away.false in
    stays-then i.same.devices i.stays (stays-but c.args.device c.note-in-Err.ensures.makes.others there)

pub returns-in-Err-clause-gone : goal.returns-in-Err-clause-gone
returns-in-Err-clause-gone g c = λ is.
    let i = c.loop-device.invariant in
    let there = sym c.away.ensures ∙ c.if-away.false in
    let some : 0 < length c.queued_modem-queue.result.now = search rules in
    (was_there c.args.device c.requires.device i.stays there, c.note-in-Err.ensures.makes.away (lent_some some c.queued_modem-queue.ensures))
