-- What computes the text of literal values.
use Rattle.std.specs.Prelude.{⊤}
use Rattle.std.specs.Char.{encode_utf8}
use Rattle.std.specs.Fmt.{digits}
use Rattle.std.specs.Str.{chars}
use Rattle.uuid.proofs.OnLiterals.{uuid_on_literals}
use Rattle.print_text.specs.Lines.{front, line, heading, deeper}
use Rattle.print_text.specs.Texts.{worded, ipv4_text}
use Rattle.mbimcli_print.specs.Texts.{uuid_text}

unfoldable pub computed : ⊤
unfolding digits chars encode_utf8 uuid_on_literals front line heading deeper worded ipv4_text uuid_text
computed = tt
