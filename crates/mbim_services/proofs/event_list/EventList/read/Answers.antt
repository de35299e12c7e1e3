use Rattle.std.proofs.Common.{sym, ◌∙◌, subst, IsSome, Option, List}
use Rattle.kit_bytes.specs.Subscriptions.{Pair}
use Rattle.mbim_services.specs.SubscribeLists.{numbers_of}
use Rattle.mbim_services.proofs.Ranges.{pairs-whole}
use Rattle.mbim_services.proofs.event_list.EventList.read.Goals as goal

pub returns : goal.returns
returns c =
    let same = c.in_ok-references.ensures.pairs in
    sym (pairs-whole c.args.buffer.now (numbers_of c.in_ok-references.references.now) (subst (λ (o : Option (List Pair)). IsSome o) (sym same) (sym c.in_ok-references.ensures.whole))) ∙ same
