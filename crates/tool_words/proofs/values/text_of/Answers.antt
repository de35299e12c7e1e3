use Rattle.std.proofs.lemmas.Str.{chars_from_encodes}
use Rattle.tool_words.proofs.values.text_of.Goals as goal

pub returns-clause-chars : goal.returns-clause-chars
returns-clause-chars c = chars_from_encodes c.in_ok-copy.copy c.args.text.now c.utf8.text (c.in_ok-copy.ensures)
