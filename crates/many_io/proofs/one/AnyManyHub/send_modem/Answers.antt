use Rattle.many_io.proofs.Recorded.{records_as, sent_modem_is}
use Rattle.many_io.proofs.one.AnyManyHub.send_modem.Goals as goal

pub returns-clause-calls : goal.returns-clause-calls
returns-clause-calls g c = records_as _ _ _ _ (sent_modem_is c.send_modem.result _ _ c.requires.device) c.send_modem.ensures.calls
