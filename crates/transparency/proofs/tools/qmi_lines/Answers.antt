use Rattle.transparency.proofs.Equal.{qmi_shows_equal}
use Rattle.transparency.proofs.tools.qmi_lines.Goals as goal

pub returns : goal.returns
returns g c = qmi_shows_equal _ _ _ _ _ c.qmicli_commands.ensures c.in_ok-requests.ensures c.in_ok-lines.ensures
