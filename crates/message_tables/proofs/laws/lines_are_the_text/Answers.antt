use Rattle.message_tables.proofs.Lines.{concat-lines_of}
use Rattle.message_tables.proofs.laws.lines_are_the_text.Goals as goal

pub returns : goal.returns
returns c = concat-lines_of
