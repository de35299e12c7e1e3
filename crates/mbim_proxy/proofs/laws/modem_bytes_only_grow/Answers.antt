use Rattle.mbim_proxy.proofs.Queue.{loss_leaves_none, modem_bytes_grow, modem_takes_the_first}
use Rattle.mbim_proxy.proofs.laws.modem_bytes_only_grow.Goals as goal

pub returns : goal.returns
returns c = record { grow = modem_bytes_grow; taking = modem_takes_the_first; loss = loss_leaves_none }
