use Rattle.qmi_proxy.proofs.Away.{away_agrees}
use Rattle.qmi_proxy.proofs.laws.the_modem_is_away_in_both.Goals as goal

pub returns : goal.returns
returns c = away_agrees
