use Rattle.modem_rules.proofs.Continued.{HasRead}
use Rattle.modem_rules.proofs.lists.rules_of.Given as goal

abbrev pub invariant-loop-value : goal.invariant-loop-value
invariant-loop-value g l = HasRead l.list (g.T.Rule.read l.kind) l.values l.value-index l.rules.items
