-- What computes the JSON of literal values.
use Rattle.std.specs.Prelude.{⊤}
use Rattle.std.specs.Fmt.{digits}
use Rattle.std.specs.Str.{chars, is_utf8}
use Rattle.hex.specs.Hex.{encode_with}
use Rattle.serde_json.proofs.OnLiterals.{serde_json_on_literals}
use Rattle.print_text.specs.Texts.{ipv4_text}
use Rattle.qmicli_print.specs.Texts.{address_text}
use Rattle.json_values.specs.Json.{text_json}
use Rattle.json_values.specs.Lines.{json_line}

unfoldable pub json_computed : ⊤
unfolding digits chars is_utf8 encode_with serde_json_on_literals ipv4_text address_text text_json json_line
json_computed = tt
