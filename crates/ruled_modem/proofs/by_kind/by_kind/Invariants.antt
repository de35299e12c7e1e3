use Rattle.std.proofs.Common.{◌≡◌, ◌++◌}
use Rattle.std.specs.Vec.Iter.{into_iter_items}
use Rattle.modem_rules.specs.declared.kind.RequestKind.{RequestKind}
use Rattle.ruled_modem.specs.Keeping.{others, own, rules_for}
use Rattle.ruled_modem.proofs.by_kind.by_kind.Given as goal

abbrev pub invariant-loop-rule : goal.invariant-loop-rule
invariant-loop-rule g l =
    (goal.iterator-loop-rule g).can_next l.rule-iterator × (goal.iterator-loop-rule g).is_finite l.rule-iterator
    × ((kind : RequestKind) → rules_for kind l.sorted.table.entries ++ own g.R.ForKind.for_kind kind (into_iter_items l.rule-iterator) ≡ own g.R.ForKind.for_kind kind l.fn.rules.items)
    × (l.sorted.others.items ++ others g.R.ForKind.for_kind (into_iter_items l.rule-iterator) ≡ others g.R.ForKind.for_kind l.fn.rules.items)
