use Rattle.number_space.proofs.Index.{absent}
use Rattle.number_space.proofs.by_number.Index.find_by_halves.Goals as goal

pub returns-else-is_at-clause-absent : goal.returns-else-is_at-clause-absent
returns-else-is_at-clause-absent c = λ none. absent c.args.number c.args.self.now.entries c.place_by_halves-place.result c.requires c.place_by_halves-place.ensures (rw c.if-is_at.false at c.is_at.ensures.other)
