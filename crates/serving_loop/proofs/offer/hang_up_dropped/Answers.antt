use Rattle.std.proofs.Common.{List, length, refl, ap, sym, subst, ◌∙◌, arith, [], ◌∷◌}
use Rattle.many_io.specs.Record.{ManyCall, events, calls_without_device, HungUp}
use Rattle.hub_io.proofs.Record.{since-starts, since-grows}
use Rattle.serving_loop.proofs.Carrying.{Carries-none, Carries-call, Carries-then}
use Rattle.serving_loop.proofs.Offering.{AreBlocked, still_without}
use Rattle.serving_loop.specs.Progress.{IsServing, AreHangUps}
use Rattle.serving_loop.specs.declared.server.Server.{Server}
use Rattle.serving_loop.specs.Face.{SameAway}
use Rattle.serving_loop.specs.Cores.{IsKnown}
use Rattle.serving_loop.proofs.Away.{same-none, same-then}
use Rattle.serving_loop.proofs.Same.{as_before-none, as_before-met, as_before-called, as_before-is}
use Rattle.serving_loop.proofs.Going.{serving-hung_up}
use Rattle.serving_loop.proofs.offer.hang_up_dropped.Goals as goal

pub loop-dropped-init : goal.loop-dropped-init
loop-dropped-init g c = record { carried = λ p turns. Carries-none _ _ _ (λ calls going. going); only = since-starts _ AreHangUps ([], refl); same = as_before-none c.requires; away = same-none _ }

pub loop-dropped-preserved : goal.loop-dropped-preserved
loop-dropped-preserved g c =
    let i = c.loop-dropped.invariant in
    let next = c.in-Some.ensures.next in
    let now : Server (g.row.C.Denot) = record { core = c.next_dropped.new.self; blocked = c.remove.new.self; modems = c.loop-dropped.server.modems; emptied = c.loop-dropped.server.emptied } in
    record {
      carried = λ p turns.
          Carries-then (i.carried p turns)
          (Carries-call _ _ _ _ _ c.hang_up.ensures.calls (λ calls going.
          let kept = c.in-Some.ensures.keeps p (events calls) going.stands.kept in
          serving-hung_up going c.in-Some.dropped now next.dropped (record { kept = kept; shows = g.met.C.ManyProxyCore.shows p (events calls) c.next_dropped.new.self kept })
          (subst (AreBlocked (calls_without_device calls)) (sym c.remove.ensures) (still_without _ c.in-Some.dropped c.loop-dropped.server.blocked going.blocked)) refl refl));
      only = since-grows _ _ _ _ AreHangUps AreHangUps (λ calls hung. (c.in-Some.dropped ∷ hung.0, ap (λ (l : List ManyCall). HungUp c.in-Some.dropped ∷ l) hung.1)) i.only c.hang_up.ensures.calls;
      same =
          let known : IsKnown g.C.ManyProxyCore.keeps c.next_dropped.new.self = record { proxy = i.same.known.proxy; past = i.same.known.past; kept = c.in-Some.ensures.keeps i.same.known.proxy i.same.known.past i.same.known.kept } in
          as_before-called (as_before-met i.same known next.devices next.greatest) c.hang_up.ensures.own c.hang_up.ensures.names c.hang_up.ensures.devices;
      away = same-then i.same.devices i.away next.away;
    }

pub loop-dropped-smaller : goal.loop-dropped-smaller
loop-dropped-smaller g c = let fewer = ap length c.in-Some.ensures.next.dropped in omega arith

pub returns : goal.returns
returns g c =
    let i = c.loop-dropped.invariant in
    let next = c.in_default.ensures.next in
    let asked : g.row.C.Denot → Server (g.row.C.Denot) = λ core. let now : Server (g.row.C.Denot) = record { core = core; blocked = c.loop-dropped.server.blocked; modems = c.loop-dropped.server.modems; emptied = c.loop-dropped.server.emptied } in now in
    record {
      carries = λ p turns.
          Carries-then (i.carried p turns)
          (Carries-none _ _ _ (λ calls going. let P : g.row.C.Denot → Type 0 = λ core. IsServing g.C.ManyProxyCore.keeps g.C.ManyProxyCore.face p turns (asked core) calls in subst P (sym next.1) going));
      only = i.only;
      asked = ap (λ (core : g.row.C.Denot). (g.C.ManyProxyCore.face core).dropped) next.1 ∙ next.0;
      away = subst (λ (core : g.row.C.Denot). SameAway (g.C.ManyProxyCore.face c.args.server.now.core) (g.C.ManyProxyCore.face core)) (sym next.1) i.away;
      same = as_before-is next.1 i.same;
    }
