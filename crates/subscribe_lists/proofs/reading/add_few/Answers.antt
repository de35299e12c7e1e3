use Rattle.std.proofs.Common.{sym, ◌∙◌}
use Rattle.mbim_services.specs.EventLists.{pairs_in}
use Rattle.subscribe_lists.specs.ClientLists.{services}
use Rattle.subscribe_lists.proofs.Adding.{services_shorter, long_with}
use Rattle.subscribe_lists.proofs.reading.add_few.Goals as goal

pub returns-then-not-add_services-clause-few : goal.returns-then-not-add_services-clause-few
returns-then-not-add_services-clause-few c =
    long_with 30 (services (pairs_in c.args.events.now)) (pairs_in c.args.events.now) (services_shorter (pairs_in c.args.events.now)) (sym c.if-not-add_services.true ∙ c.add_services.ensures.few)
