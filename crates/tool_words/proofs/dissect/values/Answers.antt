use Rattle.std.proofs.Common.{refl}
use Rattle.tool_words.specs.Dissect.{dissect_values}
use Rattle.tool_words.proofs.dissect.values.Goals as goal

pub returns : goal.returns
unfolding dissect_values
returns c =
    rw (
      ← c.value_given.ensures,
      c.in_ok-kind.ensures,
      ← c.value_given-2.ensures,
      c.in_ok-turns.ensures,
      ← c.value_given-3.ensures,
      c.in_ok-tables.ensures,
      c.in_ok-capture.ensures,
    ) refl
