use Rattle.std.proofs.Common.{ℕ, Some, None, ◌+◌, refl, sym, subst}
use Rattle.std.proofs.lemmas.Result.{err_from_is_err_and}
use Rattle.serving_loop.proofs.Carrying.{Carries-call, Carries-then}
use Rattle.serving_loop.specs.Progress.{call_of, TellsEvent}
use Rattle.serving_loop.proofs.Turns.{told-failed, tells, meets}
use Rattle.serving_loop.proofs.serving.turn.Goals as goal

pub returns-in-Err-clause-carries : goal.returns-in-Err-clause-carries
returns-in-Err-clause-carries g c = λ p turns.
    let none = c.requires.asked in
    Carries-call _ _ _ _ _ c.in-Err.ensures.calls (λ calls ready. told-failed none (record { earlier = calls; whole = refl; ready = ready }))

pub returns-in_err-end-clause-carries : goal.returns-in_err-end-clause-carries
returns-in_err-end-clause-carries g c = λ p turns.
    let e = err_from_is_err_and c.from_residual.result c.from_residual.ensures.1 in
    rw (e.1, e.2)
    (Carries-then (tells g.C.ManyProxyCore.keeps g.C.ManyProxyCore.face p c.args.until turns c.args.server.now (call_of c.read-next.result) _ _ _ c.read-next.ensures.call c.in-Ok.ensures.calls)
    (c.in_err-end.ensures.carries p turns))

pub returns-in-Some-clause-carries : goal.returns-in-Some-clause-carries
returns-in-Some-clause-carries g c = λ p turns.
    Carries-then (tells g.C.ManyProxyCore.keeps g.C.ManyProxyCore.face p c.args.until turns c.args.server.now (call_of c.read-next.result) _ _ _ c.read-next.ensures.call c.in-Ok.ensures.calls)
    (meets g.C.ManyProxyCore.keeps g.C.ManyProxyCore.face g.C.ManyProxyCore.lacks_memory p c.args.until turns _ c.meet_next.new.server _ _ c.in_ok-end.field-0 (Some c.in-Some.end) c.in-Some.is (c.in_ok-end.ensures.carries p turns))

pub returns-clause-carries : goal.returns-clause-carries
returns-clause-carries g c = λ p turns.
    Carries-then
    (Carries-then (tells g.C.ManyProxyCore.keeps g.C.ManyProxyCore.face p c.args.until turns c.args.server.now (call_of c.read-next.result) _ _ _ c.read-next.ensures.call c.in-Ok.ensures.calls)
    (meets g.C.ManyProxyCore.keeps g.C.ManyProxyCore.face g.C.ManyProxyCore.lacks_memory p c.args.until turns _ c.meet_next.new.server _ _ c.in_ok-end.field-0 None c.in_default.is (c.in_ok-end.ensures.carries p turns)))
    (c.offer_all.ensures.carries p c.args.until (turns + 1))

pub meet_next-requires-clause-told : goal.meet_next-requires-clause-told
meet_next-requires-clause-told g c =
    let before = g.H.ManyHub.greatest c.args.hub.now in
    let after = g.H.ManyHub.greatest c.next.new.self in
    let told = c.in-Ok.ensures in
    (before, c.requires.greatest, subst (λ (n : ℕ). TellsEvent n before c.read-next.result after) (sym told.devices) (c.read-next.ensures.names _ before after told.device told.names))
