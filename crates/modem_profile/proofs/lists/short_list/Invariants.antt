use Rattle.modem_profile.proofs.Continued.{HasRead}
use Rattle.modem_profile.proofs.lists.short_list.Given as goal

abbrev pub invariant-loop-value : goal.invariant-loop-value
invariant-loop-value g l = HasRead g.T.Listed.read l.values l.value-index l.list.items
