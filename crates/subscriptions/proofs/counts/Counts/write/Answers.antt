use Rattle.std.proofs.Common.{◌≤◌, length, sym, ◌∙◌, ap, subst, arith}
use Rattle.kit_bytes.specs.Subscriptions.{normal_form}
use Rattle.subscriptions.specs.Counts.{AreCountsOf, pairs_in, total}
use Rattle.subscriptions.proofs.Counting.{pairs_few, counted_form}
use Rattle.subscriptions.proofs.counts.Counts.write.Goals as goal

pub gather-requires-clause-few : goal.gather-requires-clause-few
gather-requires-clause-few c =
    let few : length c.self.inside.counts.items ≤ 1920 = let short = pairs_few c.self.inside.counts.items c.self.invariant.counts.positive in omega (arith, short, subst (λ l. total l ≤ 1920) (sym c.self.view_is) c.requires) in
    subst (λ l. length l ≤ 1920) (sym c.deref.ensures.value) few

pub returns : goal.returns
returns c = λ pairs counted.
    c.gather.ensures ∙ ap (λ l. normal_form (pairs_in l)) c.deref.ensures.value ∙ counted_form c.self.inside.counts.items pairs c.self.invariant.counts (subst (AreCountsOf pairs) (sym c.self.view_is) counted)
