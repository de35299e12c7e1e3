use Rattle.tool_words.proofs.Limits.{answer-is_within}
use Rattle.tool_words.proofs.command.command_of.Goals as goal

pub returns-clause-limits : goal.returns-clause-limits
returns-clause-limits c = answer-is_within _ _ c.read_command.ensures
