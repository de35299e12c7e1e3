use Rattle.std.proofs.Common.{refl}
use Rattle.tool_words.specs.QmiCommands.{mode_in}
use Rattle.tool_words.proofs.Names.{bytes_eq-other}
use Rattle.tool_words.proofs.qmi_commands.mode.Goals as goal

pub returns-in_default : goal.returns-in_default
unfolding mode_in
returns-in_default c =
    rw (
      bytes_eq-other _ _ c.in_default.not-online,
      bytes_eq-other _ _ c.in_default.not-text,
      bytes_eq-other _ _ c.in_default.not-text-2,
      bytes_eq-other _ _ c.in_default.not-offline,
      bytes_eq-other _ _ c.in_default.not-reset,
      bytes_eq-other _ _ c.in_default.not-text-3,
    ) refl
