use Rattle.std.proofs.Common.{ℕ, ◌++◌, codes, decimal, ap, ◌∙◌, append_assoc}
use Rattle.named_messages.specs.Described.{largest, unsigned_words}
use Rattle.named_messages.proofs.words.push_unsigned_words.Goals as goal

pub returns : goal.returns
unfolding unsigned_words
returns c =
    c.in_ok-push_number.ensures ∙ ap (λ (n : ℕ). c.args.text.now ++ codes "number, 0 to " ++ decimal n) c.largest.ensures
    ∙ append_assoc c.args.text.now (codes "number, 0 to ") (decimal (largest c.args.size))
