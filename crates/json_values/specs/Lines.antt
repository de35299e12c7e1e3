-- JSON values on lines.
-- Source: RFC 8259, with no blank between tokens.
use Rattle.std.specs.Prelude.{ℕ, List, ◌++◌, codes}
use Rattle.serde_json.specs.Data.{Data}
use Rattle.serde_json.specs.Written.{compact_text}

abbrev pub json_text : Data → List ℕ
json_text = compact_text

unfoldable pub json_line : Data → List ℕ
json_line json = json_text json ++ codes "\n"
