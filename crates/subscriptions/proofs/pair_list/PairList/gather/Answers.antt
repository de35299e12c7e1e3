use Rattle.std.proofs.Common.{◌≡◌, ◌≤◌, length, sym, ◌∙◌, subst, arith, List, rules}
use Rattle.std.proofs.lemmas.List.{length-map}
use Rattle.kit_bytes.specs.Subscriptions.{Pair, normal_form}
use Rattle.subscriptions.specs.Counts.{pairs_in}
use Rattle.subscriptions.specs.Lists.{IsNormal}
use Rattle.subscriptions.proofs.Counting.{gathered_form}
use Rattle.subscriptions.proofs.NormalForms.{normal_again, normal_shorter}
use Rattle.subscriptions.proofs.pair_list.PairList.gather.Goals as goal

pub invariant_of-self : goal.invariant_of-self
invariant_of-self c =
    let gathered : c.append_counted.new.pairs.items ≡ pairs_in c.args.counts.now = search (rules, c.append_counted.ensures.items, c.clear.ensures.items) in
    let items : c.drop_covered.new.pairs.items ≡ normal_form (pairs_in c.args.counts.now) = c.drop_covered.ensures.items ∙ gathered_form c.args.counts.now c.requires.counts gathered in
    let shorter : length c.drop_covered.new.pairs.items ≤ length (pairs_in c.args.counts.now) = subst (λ (l : List Pair). length l ≤ length (pairs_in c.args.counts.now)) (sym items) (normal_shorter (pairs_in c.args.counts.now)) in
    let mapped : length (pairs_in c.args.counts.now) ≡ length c.args.counts.now = length-map c.args.counts.now (λ counted. counted.pair) in
    record {
      normal = subst IsNormal (sym items) (normal_again (pairs_in c.args.counts.now));
      few = omega (arith, shorter, mapped, c.requires.few);
      room = omega (arith, c.self.invariant.room, c.clear.ensures.capacity, c.append_counted.ensures.capacity, c.drop_covered.ensures.capacity);
    }

pub returns : goal.returns
returns c =
    let gathered : c.append_counted.new.pairs.items ≡ pairs_in c.args.counts.now = search (rules, c.append_counted.ensures.items, c.clear.ensures.items) in
    c.drop_covered.ensures.items ∙ gathered_form c.args.counts.now c.requires.counts gathered
