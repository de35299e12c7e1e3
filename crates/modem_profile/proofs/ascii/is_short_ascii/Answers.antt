use Rattle.std.proofs.Common.{sym, ◌∙◌, true, false}
use Rattle.std.proofs.lemmas.Str.{chars-IsAscii}
use Rattle.modem_profile.proofs.Texts.{is_short_ascii-chars}
use Rattle.modem_profile.proofs.ascii.is_short_ascii.Goals as goal

pub returns-then-is_ascii-clause-exact : goal.returns-then-is_ascii-clause-exact
returns-then-is_ascii-clause-exact c = sym (is_short_ascii-chars c.args.text.now c.utf8.text true c.if-is_ascii.ensures.cases)

pub returns-then-is_ascii-clause-bytes : goal.returns-then-is_ascii-clause-bytes
returns-then-is_ascii-clause-bytes c = λ _. chars-IsAscii c.args.text.now c.if-is_ascii.ensures.cases

pub returns-else-is_ascii-clause-exact : goal.returns-else-is_ascii-clause-exact
returns-else-is_ascii-clause-exact c = c.if-is_ascii.false ∙ sym (is_short_ascii-chars c.args.text.now c.utf8.text false c.if-is_ascii.ensures.cases)
