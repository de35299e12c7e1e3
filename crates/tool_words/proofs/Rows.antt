-- From what clap's getters find to the rows.
use Rattle.std.proofs.Common.{◌≡◌, ◌∙◌, ℕ, List, Option, Some, None, option_map, ap, sym, refl}
use Rattle.std.specs.Prelude.{find, option_and_then}
use Rattle.std.specs.Str.{bytes_eq}
use Rattle.clap.specs.Facts.{Entry}
use Rattle.clap.specs.Matches.{first_value, matched_of, raw_values}
use Rattle.clap.specs.Walk.{Row, all_of, first_of, row_of, rows_of}
use Rattle.clap.specs.declared.parser.matches.Found.{Found}
use Rattle.clap.specs.declared.parser.matches.MatchedArg.{MatchedArg}
use Rattle.clap.proofs.WalkLemmas.{find_row, first_value-rows, raw_values-rows}
use Rattle.tool_words.specs.Given.{source_of}

-- where the value of this name comes from
pub source_rows : (found : Found) (name : List ℕ) → option_and_then (λ a. a.source) (matched_of found name) ≡ source_of name (rows_of found)
source_rows found name =
    source_of_row (find (λ (e : Entry). bytes_eq e.0.now name) found.entries.items)
    ∙ ap (option_and_then (λ (r : Row). r.source)) (sym (find_row found.entries.items name))
  where
    source_of_row : (o : Option Entry) → option_and_then (λ (a : MatchedArg). a.source) (option_map (λ e. e.1) o) ≡ option_and_then (λ (r : Row). r.source) (option_map row_of o)
    source_of_row None = refl
    source_of_row (Some e) = refl

-- the first value of this name
pub value_rows : (found : Found) (name : List ℕ) → first_value found name ≡ first_of name (rows_of found)
value_rows found name = first_value-rows found name

-- all values of this name
pub all_rows : (found : Found) (name : List ℕ) → option_map raw_values (matched_of found name) ≡ all_of name (rows_of found)
all_rows found name = raw_values-rows found name
