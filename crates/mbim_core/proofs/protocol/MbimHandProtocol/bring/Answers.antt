use Rattle.mbim_core.proofs.Hands.{of_seen, for_clients}
use Rattle.mbim_core.proofs.protocol.MbimHandProtocol.bring.Goals as goal

pub bring-requires-clause-agrees : goal.bring-requires-clause-agrees
bring-requires-clause-agrees c = of_seen _ _ c.self.view_is _ _ c.requires.agrees

pub returns-clause-agrees : goal.returns-clause-agrees
returns-clause-agrees c = for_clients _ _ _ c.bring.ensures.agrees
