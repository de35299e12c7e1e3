use Rattle.mbim_core.proofs.Hands.{leaves_it}
use Rattle.mbim_core.proofs.protocol.MbimHandProtocol.give_up.Goals as goal

pub returns-clause-agrees : goal.returns-clause-agrees
returns-clause-agrees c = λ front behind client before after A. leaves_it _ _ c.self.view_is c.args.name _ _ front behind client _ c.leave.ensures before after A
