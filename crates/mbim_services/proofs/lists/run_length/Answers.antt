use Rattle.std.proofs.Common.{◌≤◌, ◌∙◌, List, ℕ, get_or, ap, sym, subst, rules, tests}
use Rattle.std.specs.List.{prefix_len}
use Rattle.std.proofs.lemmas.Iterator.{YieldsList-from_slice}
use Rattle.std.proofs.lemmas.Iterator.Consumers.{count_from_yields_List}
use Rattle.std.proofs.lemmas.Iterator.Search.{YieldsList-from_take_while}
use Rattle.std.proofs.lemmas.List.Folds.{length-prefix_len}
use Rattle.mbim_services.specs.Writing.{is_of}
use Rattle.mbim_services.proofs.Runs.{first-is, some-run}
use Rattle.mbim_services.proofs.lists.run_length.Goals as goal

pub returns-clause-run : goal.returns-clause-run
returns-clause-run g c =
    let pairs = c.args.pairs.now in
    let uuid = (get_or pairs 0 c.index-pairs-0.result).0 in
    count_from_yields_List c.take_while.result c.count.result c.count.ensures.ran (YieldsList-from_take_while _ (is_of uuid) (YieldsList-from_slice pairs (cc)) c.take_while.ensures.closure c.take_while.ensures.done (λ x b q k. search (rules, tests)))
    ∙ length-prefix_len (is_of uuid) pairs
    ∙ ap (λ (u : List ℕ). prefix_len (is_of u) pairs) (sym (first-is pairs c.index-pairs-0.result c.requires))

pub returns-clause-some : goal.returns-clause-some
returns-clause-some g c = subst (λ (n : ℕ). 1 ≤ n) (sym (returns-clause-run g c)) (some-run c.args.pairs.now c.requires)
