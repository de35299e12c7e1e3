use Rattle.std.proofs.Common.{List, ◌++◌, length, ap, sym, ◌∙◌, subst, arith}
use Rattle.kit_bytes.specs.Subscriptions.{Pair, pairs_of}
use Rattle.mbim_services.specs.EventLists.{pairs_in}
use Rattle.subscribe_lists.specs.ClientLists.{services}
use Rattle.subscribe_lists.proofs.Adding.{Adds, adds_no_service, adds_service, service_shorter, long_with, fits_length}
use Rattle.subscribe_lists.proofs.reading.add_services.Goals as goal

pub loop-place-init : goal.loop-place-init
loop-place-init c = record {
  adds = subst (λ (l : List Pair). Adds (services (pairs_in c.args.events.now)) l (services (pairs_in c.args.events.now))) (sym c.clear.ensures) (adds_no_service (pairs_in c.args.events.now));
  few = omega (arith, ap (λ (l : List Pair). length l) c.clear.ensures);
}

pub returns-then-not-add_service-clause-few : goal.returns-then-not-add_service-clause-few
returns-then-not-add_service-clause-few c =
    long_with 30 (services (pairs_of c.at.result.uuid c.at.result.cids) ++ c.loop-place.into) (services (pairs_in c.args.events.now))
    (service_shorter c.args.events.now c.loop-place.place c.at.result.uuid c.at.result.cids c.loop-place.invariant.adds c.at.ensures) (sym c.if-not-add_service.true ∙ c.add_service.ensures.few)

pub loop-place-preserved : goal.loop-place-preserved
loop-place-preserved c =
    let new = c.add_service.ensures.list c.if-not-add_service.false in
    record {
      adds = adds_service c.args.events.now c.loop-place.place c.at.result.uuid c.at.result.cids c.loop-place.invariant.adds c.at.ensures new;
      few = fits_length 30 (services (pairs_of c.at.result.uuid c.at.result.cids) ++ c.loop-place.into) (sym c.if-not-add_service.false ∙ c.add_service.ensures.few) new;
    }
