use Rattle.std.proofs.Common.{refl}
use Rattle.tool_words.specs.MbimCommands.{connect_in}
use Rattle.tool_words.proofs.mbim_commands.connect.Goals as goal

pub returns-in-Some : goal.returns-in-Some
unfolding connect_in
returns-in-Some c = rw (← c.in_ok-parts.ensures, c.in-Some.is) (rw c.deref.ensures.value at c.context_of.ensures)

pub returns-in-None : goal.returns-in-None
unfolding connect_in
returns-in-None c = (rw (← c.in_ok-parts.ensures, c.in-None.is) refl, refl)
