use Rattle.qmi_proxy.proofs.Refusals.{the_order_loses_none}
use Rattle.qmi_proxy.proofs.laws.the_order_of_refusals_loses_none.Goals as goal

pub returns : goal.returns
returns c = the_order_loses_none
