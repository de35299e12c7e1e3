use Rattle.std.proofs.Common.{ap, ◌∙◌, map, string_bytes, subst}
use Rattle.kit_io.proofs.Growth.{Grows-none}
use Rattle.sim_supervision.specs.Supervision.{SupervisesOrLacksMemory}
use Rattle.sim_supervision.proofs.Again.{kept}
use Rattle.sim_supervision.proofs.supervision.supervise_simulator.Goals as goal

pub returns-in-Ok-clause-keeps : goal.returns-in-Ok-clause-keeps
returns-in-Ok-clause-keeps g c =
    subst
    (λ words. SupervisesOrLacksMemory words c.args.most (g.P.Spawner.calls c.args.spawner.now) c.supervise.result (g.P.Spawner.calls c.supervise.new.spawner))
    (ap (map string_bytes) c.as_slice.ensures.value ∙ c.in-Ok.ensures)
    (kept _ _ c.supervise.result c.supervise.ensures.keeps)

pub returns-in-Err-clause-keeps : goal.returns-in-Err-clause-keeps
returns-in-Err-clause-keeps g c = Grows-none _
