use Rattle.tool_words.specs.Qmicli.{qmicli_app}
use Rattle.tool_words.proofs.qmicli.qmicli_reader.Goals as goal

pub returns : goal.returns
unfolding qmicli_app
returns c = rw (c.settings.ensures, c.qmicli_commands.ensures) at c.modem_tool.ensures
