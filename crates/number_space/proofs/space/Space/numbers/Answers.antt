use Rattle.std.proofs.Common.{sym, subst, Contains}
use Rattle.number_space.specs.Chain.{values}
use Rattle.number_space.specs.Table.{Table, numbers, IsRisingListOf}
use Rattle.number_space.proofs.Index.{listed_index}
use Rattle.number_space.proofs.Since.{listed_since}
use Rattle.number_space.proofs.space.Space.numbers.Goals as goal

pub returns-clause-rising : goal.returns-clause-rising
returns-clause-rising g c =
    subst (λ (t : Table g.row.T.Denot). IsRisingListOf (Contains (numbers t.rows)) c.numbers.result.now.items) c.self.view_is
    (subst (IsRisingListOf (Contains (numbers (values c.self.inside.rows.entries)))) (sym c.numbers.ensures) (listed_index c.self.inside.index.entries c.self.inside.rows.entries c.self.invariant.indexed))

pub returns-clause-stands : goal.returns-clause-stands
returns-clause-stands g c = λ limit top calls stands. listed_since limit top calls c.args.self.now c.numbers.result.now.items stands (returns-clause-rising g c)
