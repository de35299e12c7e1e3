use Rattle.qmi_proxy.proofs.Queue.{modem_bytes_only_grow, modem_takes_the_first, loss_leaves_none}
use Rattle.qmi_proxy.proofs.laws.modem_bytes_only_grow.Goals as goal

pub returns : goal.returns
returns c = record {
  grow = modem_bytes_only_grow;
  taking = modem_takes_the_first;
  loss = loss_leaves_none;
}
