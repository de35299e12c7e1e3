-- What the proofs of the reader cite.
use Rattle.std.proofs.Common.{◌≡◌, ◌∙◌, ◌<◌, ◌+◌, ℕ, List, length, take, sym, ap, slice_index_or}
use Rattle.std.proofs.lemmas.List.Sums.{fold_more}
use Rattle.clap.specs.Simple.{App, with_rule}
use Rattle.tool_words.specs.Spelling.{Spelling}
use Rattle.tool_words.specs.Reading.{option_rule, with_options}

-- one more option
pub options_more : {O : Type 0} (spelling : O → Spelling) (app : App) (options : List O) (i : ℕ) (o : O) → i < length options → o ≡ slice_index_or options i o
    → with_rule (with_options spelling app (take i options)) (option_rule (spelling o)) ≡ with_options spelling app (take (i + 1) options)
options_more spelling app options i o lt at =
    ap (λ x. with_rule (with_options spelling app (take i options)) (option_rule (spelling x))) at
    ∙ sym (fold_more (λ a x. with_rule a (option_rule (spelling x))) app options i o lt)
