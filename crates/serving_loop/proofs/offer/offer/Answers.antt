use Rattle.std.proofs.Common.{◌≡◌, ℕ, ◌+◌, ◌<◌, false, ◌==◌, List, [], ◌∷◌, length, refl, ap, sym, subst, ◌∙◌, rules}
use Rattle.std.proofs.lemmas.List.{nil_from_length}
use Rattle.proxy_history.specs.Connections.{contains, without}
use Rattle.many_io.specs.Record.{ManyCall, Sent, SendFailed, HungUp, events, calls_without_device}
use Rattle.serving_loop.proofs.Carrying.{Carries-none, Carries-call, Carries-then}
use Rattle.serving_loop.proofs.Offering.{AreBlocked, contains-any, still_without}
use Rattle.serving_loop.specs.Progress.{IsAt, HasOffered}
use Rattle.serving_loop.specs.declared.server.Server.{Server}
use Rattle.serving_loop.specs.Cores.{IsTaken}
use Rattle.serving_loop.proofs.Away.{same-then}
use Rattle.serving_loop.proofs.Same.{as_before-met, as_before-called}
use Rattle.serving_loop.proofs.Places.{at-blocked, at-empty, at-sent_none, at-sent, at-failed, not_zero}
use Rattle.serving_loop.proofs.offer.offer.Given.{Over}
use Rattle.serving_loop.proofs.offer.offer.Goals as goal

pub returns-then-contains-clause-carries : goal.returns-then-contains-clause-carries
returns-then-contains-clause-carries g c = λ p until turns.
    Carries-then (c.loop-conn.invariant.carried p until turns)
    (Carries-none _ _ _ (λ calls at. at-blocked at (sym (contains-any c.args.conn c.loop-conn.server.blocked) ∙ sym c.contains.ensures ∙ c.if-contains.true)))

pub returns-then-is_empty-clause-carries : goal.returns-then-is_empty-clause-carries
returns-then-is_empty-clause-carries g c = λ p until turns.
    let none : c.queued-queue.result.now ≡ [] = nil_from_length c.queued-queue.result.now (search rules) in
    Carries-then (c.loop-conn.invariant.carried p until turns) (Carries-none _ _ _ (λ calls at. at-empty at (c.queued-queue.ensures.some none)))

pub returns-in-Ok-eq0-clause-carries : goal.returns-in-Ok-eq0-clause-carries
returns-in-Ok-eq0-clause-carries g c = λ p until turns.
    let none : c.in-Ok-eq0.field-0 ≡ 0 = c.in-Ok-eq0.field-0-test in
    let bytes : List ℕ = c.queued-queue.result.now in
    let some : 0 < length bytes = search rules in
    let now : Server (g.row.C.Denot) = record c.loop-conn.server { blocked = c.add.new.self } in
    let After : ℕ → List ManyCall → Type 0 = λ n calls. HasOffered g.C.ManyProxyCore.keeps g.C.ManyProxyCore.face p until turns (c.args.place + 1) now (Sent c.args.conn bytes n ∷ calls) in
    Carries-then (c.loop-conn.invariant.carried p until turns)
    (Carries-call _ _ _ _ _ c.in-Ok-eq0.ensures.calls (λ calls at.
    subst (λ (n : ℕ). After n calls) (sym none) (at-sent_none at bytes now some c.queued-queue.ensures refl c.add.ensures refl refl)))

-- the socket took some of what waited
taking : (g : Over) (c : goal.After-note g) → IsTaken c.args.conn c.in-Ok.count (g.C.ManyProxyCore.face c.loop-conn.server.core) (g.C.ManyProxyCore.face c.note.new.self.core)
taking g c = c.note.ensures.makes c.loop-conn.invariant.there

pub loop-conn-preserved : goal.loop-conn-preserved
loop-conn-preserved g c =
    let i = c.loop-conn.invariant in
    let bytes : List ℕ = c.queued-queue.result.now in
    let some : 0 < length bytes = search rules in
    let no_names = i.asked in
    let taken : (c.in-Ok.count == 0) ≡ false = not_zero c.in-Ok.count c.in-Ok.count-test.1 in
    let free : contains c.args.conn c.loop-conn.server.blocked ≡ false = sym (contains-any c.args.conn c.loop-conn.server.blocked) ∙ sym c.contains.ensures ∙ c.if-contains.false in
    record {
      carried = λ p until turns.
          Carries-then (i.carried p until turns)
          (Carries-call _ _ _ _ _ c.in-Ok.ensures.calls (λ calls at.
          at-sent at bytes c.in-Ok.count c.note.new.self taken c.in-Ok.ensures.within some c.queued-queue.ensures free no_names
          (c.note.ensures.stands p (events calls) at.serving.stands)
          c.note.ensures.blocked c.note.ensures.modems c.note.ensures.emptied));
      asked = (taking g c).dropped ∙ i.asked;
      there = ap (contains c.args.conn) (taking g c).present ∙ i.there;
      many = ap length (taking g c).present ∙ i.many;
      same = as_before-called (as_before-met i.same c.note.ensures.known c.note.ensures.devices c.note.ensures.greatest) c.send.ensures.own c.send.ensures.names c.send.ensures.devices;
      away = same-then i.same.devices i.away (taking g c).away;
    }

pub returns-in-Err-clause-carries : goal.returns-in-Err-clause-carries
returns-in-Err-clause-carries g c = λ p until turns.
    let i = c.loop-conn.invariant in
    let bytes : List ℕ = c.queued-queue.result.now in
    let some : 0 < length bytes = search rules in
    let no_names = i.asked in
    let now : Server (g.row.C.Denot) = record c.note-in-Err.new.self { blocked = c.remove.new.self } in
    let blocked : c.remove.new.self ≡ without c.args.conn c.loop-conn.server.blocked = c.remove.ensures ∙ ap (without c.args.conn) c.note-in-Err.ensures.blocked in
    let Failed : List ManyCall → Type 0 = λ calls. (earlier : List ManyCall) × (calls ≡ SendFailed c.args.conn bytes ∷ earlier) × IsAt g.C.ManyProxyCore.keeps g.C.ManyProxyCore.face p until turns c.args.place c.args.conn c.loop-conn.server earlier in
    let Gone : List ManyCall → Type 0 = λ calls. HasOffered g.C.ManyProxyCore.keeps g.C.ManyProxyCore.face p until turns c.args.place now (HungUp c.args.conn ∷ calls) in
    Carries-then (Carries-then (i.carried p until turns)
    (Carries-call _ Failed _ _ _ c.in-Err.ensures.calls (λ calls at. (calls, refl, at))))
    (Carries-call Failed _ _ _ _ c.hang_up.ensures.calls (λ calls failed.
    let at = failed.2 in
    subst Gone (sym failed.1)
    (at-failed at bytes now some c.queued-queue.ensures no_names
    (c.note-in-Err.ensures.stands p (events failed.0) at.serving.stands)
    (subst (AreBlocked (calls_without_device failed.0)) (sym blocked) (still_without _ c.args.conn c.loop-conn.server.blocked at.serving.blocked))
    c.note-in-Err.ensures.modems
    c.note-in-Err.ensures.emptied)))

pub returns-in-Err-clause-away : goal.returns-in-Err-clause-away
returns-in-Err-clause-away g c = let i = c.loop-conn.invariant in same-then i.same.devices i.away (c.note-in-Err.ensures.makes i.there).away
