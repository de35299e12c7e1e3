use Rattle.mbim_core.proofs.Hands.{of_seen, for_clients}
use Rattle.mbim_core.proofs.Hearing.{whole_long}
use Rattle.mbim_core.proofs.protocol.MbimHandProtocol.hear_modem.Goals as goal

pub hear_modem-requires-clause-agrees : goal.hear_modem-requires-clause-agrees
hear_modem-requires-clause-agrees c = of_seen _ _ c.self.view_is _ _ c.requires.agrees

pub hear_modem-requires-clause-least : goal.hear_modem-requires-clause-least
hear_modem-requires-clause-least c = whole_long c.args.message.now c.requires.whole

pub returns-clause-agrees : goal.returns-clause-agrees
returns-clause-agrees c = for_clients _ _ _ c.hear_modem.ensures.agrees
