use Rattle.mbim_clients.proofs.Sent.{sent_open_beside}
use Rattle.mbim_clients.proofs.side.ModemSide.open_modem.Goals as goal

pub returns-clause-side : goal.returns-clause-side
returns-clause-side c = sent_open_beside _ c.in_ok-number.number _ _ c.args.self.now c.self.view_is c.saturating_add-deadline.ensures c.in_ok-number.ensures.traffic
