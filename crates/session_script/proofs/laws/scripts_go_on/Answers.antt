use Rattle.session_script.proofs.Scripts.{scripts_go_on}
use Rattle.session_script.proofs.laws.scripts_go_on.Goals as goal

pub returns : goal.returns
returns g c = scripts_go_on
