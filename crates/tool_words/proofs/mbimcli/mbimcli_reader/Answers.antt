use Rattle.tool_words.specs.Mbimcli.{mbimcli_app}
use Rattle.tool_words.proofs.mbimcli.mbimcli_reader.Goals as goal

pub returns : goal.returns
unfolding mbimcli_app
returns c = rw (c.settings.ensures, c.mbimcli_commands.ensures) at c.modem_tool.ensures
