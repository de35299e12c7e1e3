use Rattle.std.proofs.Common.{refl}
use Rattle.tool_words.specs.Rig.{rig_values}
use Rattle.tool_words.proofs.rig.values.Goals as goal

pub returns : goal.returns
unfolding rig_values
returns c =
    rw (
      ← c.value_given.ensures,
      c.in_ok-kind.ensures,
      ← c.value_given-2.ensures,
      c.in_ok-clients.ensures.value,
      ← c.value_given-3.ensures,
      c.in_ok-messages.ensures.value,
      ← c.value_given-4.ensures,
      c.in_ok-number.ensures.value,
    ) refl
