use Rattle.std.proofs.Common.{refl}
use Rattle.mbim_services.specs.Table.{layout_for}
use Rattle.std.specs.Char.Utf16.{utf16_chars}
use Rattle.sim_mbim.proofs.examples.sessions_are_kept.Goals as goal

pub returns : goal.returns
unfolding layout_for utf16_chars
returns c = record { at_first = refl; connects = refl; is_connected = refl; disconnects = refl; is_disconnected = refl; addresses_are = refl }
