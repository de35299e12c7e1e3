use Rattle.std.proofs.Common.{subst}
use Rattle.core_bench.specs.declared.held.Held.{Held}
use Rattle.core_bench.specs.Held.{Keeps}
use Rattle.core_bench.proofs.cores.CoresBench.next_dropped.Goals as goal

pub returns-in-Mbim-clause-keeps : goal.returns-in-Mbim-clause-keeps
returns-in-Mbim-clause-keeps c = λ p past kept. let Kept : Held → Type 0 = λ held. Keeps p past held in c.next_dropped-in-Mbim.ensures.keeps p past (subst Kept c.in-Mbim.is kept)
