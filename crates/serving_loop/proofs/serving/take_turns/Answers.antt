use Rattle.std.proofs.Common.{◌≡◌, ℕ, List, Option, Some, None, ◌+◌, refl, ap, sym, subst, ◌∙◌, arith, rules, Result, Ok}
use Rattle.std.proofs.lemmas.Result.{err_from_is_err_and}
use Rattle.std.specs.declared.alloc.AllocError.{AllocError}
use Rattle.many_io.specs.Record.{ManyCall}
use Rattle.hub_io.specs.declared.settings.ServeEnd.{ServeEnd}
use Rattle.hub_io.specs.declared.settings.ServeEnd.TheVariants as end
use Rattle.serving_loop.proofs.Carrying.{Carries-none, Carries-then}
use Rattle.serving_loop.proofs.Ends.{ran_out_further}
use Rattle.many_serving.specs.Ends.{EndsFor, EndsSpent, RanOut}
use Rattle.serving_loop.specs.Progress.{IsReady, IsHubFault, EndsNow}
use Rattle.serving_loop.proofs.Turns.{ends_further, ends_spent, turned}
use Rattle.serving_loop.proofs.serving.take_turns.Goals as goal

ok_is : (x y : ServeEnd) (rx ry : Result ServeEnd AllocError) → rx ≡ ry → rx ≡ Ok x → ry ≡ Ok y → x ≡ y
ok_is x y rx ry is first second = cc

pub returns-in_err-end-clause-carries : goal.returns-in_err-end-clause-carries
returns-in_err-end-clause-carries g c = λ p.
    let i = c.loop.invariant in
    let e = err_from_is_err_and c.from_residual.result c.from_residual.ensures.1 in
    let Out : ℕ → List ManyCall → Type 0 = λ n. RanOut g.C.ManyProxyCore.lacks_memory p c.args.until n in
    rw (e.1, e.2)
    (Carries-then (Carries-then (i.carried p) (c.in_err-end.ensures.carries p c.loop.counter))
    (Carries-none (Out (c.loop.counter + 1)) (Out c.args.turns) _ (λ calls out. ran_out_further (c.loop.counter + 1) c.args.turns (omega arith) out)))

pub returns-in-Some-clause-carries : goal.returns-in-Some-clause-carries
returns-in-Some-clause-carries g c = λ p.
    let i = c.loop.invariant in
    let until = c.args.until in
    let Ends : List ManyCall → Type 0 = EndsNow p until (c.loop.counter + 1) c.in-Some.end in
    let Ended : List ManyCall → Type 0 = EndsFor g.C.ManyProxyCore.lacks_memory p until c.args.turns c.in-Some.end in
    Carries-then
    (Carries-then (i.carried p)
    (turned g.C.ManyProxyCore.keeps g.C.ManyProxyCore.face g.C.ManyProxyCore.lacks_memory p until c.loop.counter _ c.turn.new.server _ _ c.in_ok-end.field-0 (Some c.in-Some.end) c.in-Some.is (c.in_ok-end.ensures.carries p c.loop.counter)))
    (Carries-none Ends Ended _ (λ calls ends. ends_further g.C.ManyProxyCore.lacks_memory p until calls c.in-Some.end (c.loop.counter + 1) c.args.turns (omega arith) ends))

pub returns-clause-carries : goal.returns-clause-carries
returns-clause-carries g c = λ p.
    let i = c.loop.invariant in
    let until = c.args.until in
    let turns = c.args.turns in
    let none = i.asked in
    let all : c.loop.counter ≡ turns = omega arith in
    let Ready : ℕ → List ManyCall → Type 0 = λ n. IsReady g.C.ManyProxyCore.keeps g.C.ManyProxyCore.face p until n c.loop.server in
    Carries-then (i.carried p)
    (Carries-none (Ready c.loop.counter) (EndsSpent p until turns) _ (λ calls ready. ends_spent none (subst (λ (n : ℕ). Ready n calls) all ready)))

pub returns-in-Some-clause-fault : goal.returns-in-Some-clause-fault
returns-in-Some-clause-fault g c = λ is.
    let Fault : Option ServeEnd → Type 0 = λ o. IsHubFault (Ok o) in
    let so : Some c.in-Some.end ≡ Some end.HubFault = ap (λ (e : ServeEnd). Some e) (ok_is c.in-Some.end end.HubFault _ _ is refl refl) in
    let rose = c.in_ok-end.ensures.fault (subst Fault (sym (c.in-Some.is ∙ so)) tt) in
    omega (arith, rose, c.loop.invariant.later)

pub loop-preserved : goal.loop-preserved
loop-preserved g c =
    let i = c.loop.invariant in
    record {
      carried = λ p.
          Carries-then (i.carried p)
          (turned g.C.ManyProxyCore.keeps g.C.ManyProxyCore.face g.C.ManyProxyCore.lacks_memory p c.args.until c.loop.counter _ c.turn.new.server _ _ c.in_ok-end.field-0 None c.in_default.is (c.in_ok-end.ensures.carries p c.loop.counter));
      asked = c.in_ok-end.ensures.asked;
      known = c.in_ok-end.ensures.known;
      devices = c.in_ok-end.ensures.devices ∙ i.devices;
      hub = c.turn.ensures.hub ∙ i.hub;
      greatest = c.in_ok-end.ensures.greatest;
      later = omega (arith, i.later, c.turn.ensures.later);
      room = search rules;
      within = omega arith;
    }
