use Rattle.std.proofs.Common.{arith}
use Rattle.number_space.specs.Chain.{values}
use Rattle.number_space.proofs.Waiting.{waiting_few}
use Rattle.number_space.proofs.space.Space.count.Goals as goal

pub returns : goal.returns
returns g c = rw (← c.self.view_is) (omega (arith, c.min.ensures, c.how_many_await.ensures, waiting_few c.args.conn (values c.self.inside.rows.entries), c.self.invariant.sound.few))
