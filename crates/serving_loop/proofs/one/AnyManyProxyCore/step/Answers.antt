use Rattle.std.proofs.Common.{◌≡◌, ◌∷◌, map, ap, sym, subst, ◌∙◌}
use Rattle.proxy_history.specs.Events.{Event, greatest_after}
use Rattle.proxy_serving.specs.Face.{CanMeet, BringsIn}
use Rattle.many_serving.specs.Proxy.{ManyProxy}
use Rattle.many_io.specs.Events.{event_of}
use Rattle.many_io.specs.Record.{without_device}
use Rattle.serving_loop.proofs.AsOne.{can_step, steps_as_one}
use Rattle.serving_loop.proofs.one.AnyManyProxyCore.step.Given.{Over}
use Rattle.serving_loop.proofs.one.AnyManyProxyCore.step.Goals as goal

pub step-requires : goal.step-requires
step-requires g c = subst (λ (e : Event). CanMeet e (g.C.ProxyCore.face c.args.self.now)) (sym c.of_the_only.ensures) (can_step _ _ c.requires)

-- the greatest name, by the event as that of several has it
greatest_is : (g : Over) (c : goal.In-Ok g) → (g.C.ProxyCore.face c.step.new.self).greatest ≡ greatest_after (without_device (event_of c.args.event)) (g.C.ProxyCore.face c.args.self.now).greatest
greatest_is g c = c.in-Ok.ensures.greatest ∙ ap (λ (e : Event). greatest_after e (g.C.ProxyCore.face c.args.self.now).greatest) c.of_the_only.ensures

pub returns-in-Ok-clause-keeps : goal.returns-in-Ok-clause-keeps
returns-in-Ok-clause-keeps g c = λ p past kept.
    steps_as_one g.C.ProxyCore.keeps g.C.ProxyCore.face p (event_of c.args.event) past _ _ c.requires (greatest_is g c)
    (λ q held. subst (λ (e : Event). g.C.ProxyCore.keeps q (e ∷ map without_device past) c.step.new.self) c.of_the_only.ensures (c.in-Ok.ensures.keeps q (map without_device past) held)) kept

pub returns-in-Ok-clause-dropped : goal.returns-in-Ok-clause-dropped
returns-in-Ok-clause-dropped g c = λ p past kept.
    c.in-Ok.ensures.dropped kept.proxy (map without_device past) kept.kept
    ∙ ap (λ (e : Event). kept.proxy.dropped (e ∷ map without_device past)) c.of_the_only.ensures
    ∙ sym (ap (λ (q : ManyProxy). q.dropped (event_of c.args.event ∷ past)) kept.same)

pub returns-in-Ok-clause-greatest : goal.returns-in-Ok-clause-greatest
returns-in-Ok-clause-greatest g c = greatest_is g c

pub returns-in-Err-clause-memory : goal.returns-in-Err-clause-memory
returns-in-Err-clause-memory g c = subst g.C.ProxyCore.lacks_memory c.of_the_only.ensures c.in-Err.ensures.memory

pub returns-in-Err-clause-brings : goal.returns-in-Err-clause-brings
returns-in-Err-clause-brings g c = subst BringsIn c.of_the_only.ensures c.in-Err.ensures.brings
