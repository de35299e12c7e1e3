use Rattle.std.proofs.Common.{refl}
use Rattle.tool_words.specs.QmiCommands.{stored_in}
use Rattle.tool_words.proofs.qmi_commands.stored.Goals as goal

pub returns : goal.returns
unfolding stored_in
returns c =
    rw (
      c.in_ok-storage.ensures,
      ← c.number_8.ensures,
      c.in_ok-storage-2.was,
      ← c.number_32.ensures,
      c.in_ok-index.was,
    ) refl
