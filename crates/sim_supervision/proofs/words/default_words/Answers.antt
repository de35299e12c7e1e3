use Rattle.std.proofs.Common.{refl, rules}
use Rattle.sim_supervision.specs.Words.{default_words}
use Rattle.sim_supervision.proofs.words.default_words.Goals as goal

pub returns : goal.returns
unfolding default_words
returns c =
    rw (
      c.in_ok-add-4.ensures,
      c.in_ok-add-3.ensures,
      c.in_ok-add-2.ensures,
      c.in_ok-add.ensures,
      c.new-words.ensures.items,
      c.in_ok-from_str.ensures.ok,
      c.in_ok-option_word.ensures,
      c.in_ok-option_word-2.ensures,
      c.in_ok-option_word-3.ensures,
      c.kind_word.ensures,
      c.as_str.ensures,
      c.value.ensures.same,
      c.format.ensures.text,
    ) refl
