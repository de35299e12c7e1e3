-- What computes the JSON of literal values.
use Rattle.std.specs.Prelude.{⊤}
use Rattle.std.specs.Char.{encode_utf8}
use Rattle.json_values.proofs.Computed.{json_computed}
use Rattle.mbimcli_print.proofs.Computed.{computed}

unfoldable pub line_computed : ⊤
unfolding encode_utf8 json_computed computed
line_computed = tt
