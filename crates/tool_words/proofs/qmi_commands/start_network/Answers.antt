use Rattle.std.proofs.Common.{refl}
use Rattle.tool_words.specs.QmiCommands.{start_network_in}
use Rattle.tool_words.proofs.qmi_commands.start_network.Goals as goal

pub returns-in-Some : goal.returns-in-Some
unfolding start_network_in
returns-in-Some c = rw (← c.in_ok-parts.ensures, c.in-Some.is) (rw c.deref.ensures.value at c.network_of.ensures)

pub returns-in-None : goal.returns-in-None
unfolding start_network_in
returns-in-None c = (rw (← c.in_ok-parts.ensures, c.in-None.is) refl, refl)
