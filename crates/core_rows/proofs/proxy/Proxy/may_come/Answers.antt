use Rattle.std.proofs.Common.{arith}
use Rattle.std.proofs.lemmas.Bool.Decides.{nat_tests}
use Rattle.core_rows.proofs.proxy.Proxy.may_come.Goals as goal

pub returns-in-Joined : goal.returns-in-Joined
returns-in-Joined g c = λ before. rw (c.in-Joined.is) (grind (arith, nat_tests, before, c.args.self.now.greatest_is c.requires))
