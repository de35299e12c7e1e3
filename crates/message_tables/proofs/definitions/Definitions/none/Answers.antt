use Rattle.std.proofs.Common.{rules}
use Rattle.message_tables.specs.View.{names_in}
use Rattle.message_tables.proofs.definitions.Definitions.none.Goals as goal

pub returns : goal.returns
unfolding names_in
returns c = λ name. search rules
