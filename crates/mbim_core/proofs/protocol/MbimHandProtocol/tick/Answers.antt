use Rattle.mbim_core.proofs.Hands.{of_seen, for_clients}
use Rattle.mbim_core.proofs.protocol.MbimHandProtocol.tick.Goals as goal

pub tick-requires : goal.tick-requires
tick-requires c = of_seen _ _ c.self.view_is _ _ c.requires

pub returns-clause-agrees : goal.returns-clause-agrees
returns-clause-agrees c = for_clients _ _ _ c.tick.ensures.agrees
