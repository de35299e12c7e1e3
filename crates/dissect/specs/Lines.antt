-- Lines inside a message.
use Rattle.std.specs.Prelude.{ℕ, List}
use Rattle.std.specs.List.{flat_map}
use Rattle.print_text.specs.Texts.{hex_pair}
use Rattle.print_text.specs.Lines.{line, spaces}

-- bytes in hexadecimal
abbrev pub hex : List ℕ → List ℕ
hex bytes = flat_map hex_pair bytes

-- a line inside a message, with a name and bytes
abbrev pub hex_line : List ℕ → List ℕ → List ℕ
hex_line name bytes = line (spaces 1) name (hex bytes)
