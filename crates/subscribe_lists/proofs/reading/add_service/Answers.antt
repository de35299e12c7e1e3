use Rattle.std.proofs.Common.{List, ◌++◌, refl, ap, sym, ◌∙◌}
use Rattle.kit_bytes.specs.Subscriptions.{Pair, normal_form, pairs_of}
use Rattle.subscribe_lists.specs.ClientLists.{services}
use Rattle.subscribe_lists.proofs.Events.{services_some}
use Rattle.subscribe_lists.proofs.Adding.{length_fits}
use Rattle.subscribe_lists.proofs.reading.add_service.Goals as goal

pub returns-then-not-is_empty-clause-list : goal.returns-then-not-is_empty-clause-list
returns-then-not-is_empty-clause-list c =
    let none = services_some c.args.event.now.uuid c.args.event.now.cids (sym c.is_empty.ensures ∙ c.if-not-is_empty.true) in
    λ short. sym c.requires.normal ∙ ap (λ (l : List Pair). normal_form (l ++ c.args.into.now)) (sym none)

pub returns-then-not-is_empty-clause-few : goal.returns-then-not-is_empty-clause-few
returns-then-not-is_empty-clause-few c =
    length_fits 30 (services (pairs_of c.args.event.now.uuid c.args.event.now.cids) ++ c.args.into.now) c.requires.few (returns-then-not-is_empty-clause-list c refl)
