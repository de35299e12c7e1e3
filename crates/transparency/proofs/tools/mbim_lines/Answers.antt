use Rattle.transparency.proofs.Equal.{mbim_shows_equal}
use Rattle.transparency.proofs.tools.mbim_lines.Goals as goal

pub returns : goal.returns
returns g c = mbim_shows_equal _ _ _ _ _ c.mbimcli_commands.ensures c.in_ok-requests.ensures c.in_ok-lines.ensures
