use Rattle.std.proofs.Common.{◌<◌, List, length, sym, subst}
use Rattle.kit_bytes.specs.Subscriptions.{Subscription}
use Rattle.mbim_services.proofs.Ranges.{place-fits}
use Rattle.mbim_services.proofs.event_list.EventList.at.Goals as goal

pub nth_range-requires-clause-place : goal.nth_range-requires-clause-place
nth_range-requires-clause-place c = place-fits c.self.inside.buffer.now c.self.inside.references.now c.args.place (subst (λ (l : List Subscription). c.args.place < length l) (sym c.self.view_is) c.requires)
