use Rattle.std.proofs.Common.{sym}
use Rattle.std.proofs.lemmas.Str.{encodes-chars}
use Rattle.mbimcli_print.proofs.print.spelled.Goals as goal

pub returns : goal.returns
returns c = sym (encodes-chars c.args.name.now c.utf8.name)
