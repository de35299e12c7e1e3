use Rattle.std.proofs.Common.{sym, arith}
use Rattle.many_io.specs.Record.{events}
use Rattle.serving_loop.proofs.Carrying.{Carries-none, Carries-then}
use Rattle.serving_loop.proofs.Faces.{contains-at}
use Rattle.serving_loop.proofs.Away.{same-then}
use Rattle.serving_loop.proofs.Same.{as_before-then}
use Rattle.serving_loop.proofs.Places.{at_next, all_offered}
use Rattle.serving_loop.proofs.offer.offer_clients.Goals as goal

pub offer-from-requires-clause-there : goal.offer-from-requires-clause-there
offer-from-requires-clause-there g c = contains-at (g.C.ManyProxyCore.face c.loop-place.server.core).present c.in-Some.place c.conn_at-conn.result c.conn_at-conn.ensures

pub loop-place-preserved : goal.loop-place-preserved
loop-place-preserved g c =
    let i = c.loop-place.invariant in
    record {
      carried = λ p until turns.
          Carries-then (Carries-then (i.carried p until turns)
          (Carries-none _ _ _ (λ calls so. at_next so c.in-Some.place c.conn_at-conn.result (sym (c.in-Some.ensures.place p (events calls) so.serving.stands.kept)) c.conn_at-conn.ensures)))
          (c.offer-from.ensures.carries p until turns);
      asked = c.offer-from.ensures.asked;
      within = omega (arith, c.offer-from.ensures.done, c.in-Some.ensures.within.1);
      same = as_before-then i.same c.offer-from.ensures.same;
      away = same-then i.same.devices i.away c.offer-from.ensures.away;
    }

pub returns-clause-carries : goal.returns-clause-carries
returns-clause-carries g c = λ p until turns.
    Carries-then (c.loop-place.invariant.carried p until turns)
    (Carries-none _ _ _ (λ calls so. all_offered so (sym (c.in_default.ensures.place p (events calls) so.serving.stands.kept))))
