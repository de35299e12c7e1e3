use Rattle.mbim_core.proofs.Hands.{of_seen, for_clients}
use Rattle.mbim_core.proofs.protocol.MbimHandProtocol.lose.Goals as goal

pub lose-requires : goal.lose-requires
lose-requires c = of_seen _ _ c.self.view_is _ _ c.requires

pub returns-clause-agrees : goal.returns-clause-agrees
returns-clause-agrees c = for_clients _ _ _ c.lose.ensures.agrees
