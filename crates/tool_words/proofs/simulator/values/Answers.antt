use Rattle.std.proofs.Common.{refl}
use Rattle.tool_words.specs.Simulator.{simulator_values}
use Rattle.tool_words.proofs.simulator.values.Goals as goal

pub returns : goal.returns
unfolding simulator_values
returns c =
    rw (
      ← c.value_given.ensures,
      c.in_ok-kind.ensures,
      ← c.value_given-2.ensures,
      c.in_ok-turns.ensures,
      ← c.value_given-3.ensures,
      c.in_ok-keep.ensures,
      ← c.simulator_socket.ensures,
      ← c.value_given-socket.ensures,
      c.in_ok-socket.ensures,
      ← c.value_given-4.ensures,
      c.in_ok-profile.ensures,
      ← c.value_given-5.ensures,
      c.in_ok-rules.ensures,
    ) refl
