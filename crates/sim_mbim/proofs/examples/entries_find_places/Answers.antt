use Rattle.std.proofs.Common.{refl}
use Rattle.mbim_services.specs.Table.{layout_for}
use Rattle.std.specs.Char.Utf16.{utf16_chars}
use Rattle.sim_mbim.proofs.examples.entries_find_places.Goals as goal

pub returns : goal.returns
unfolding layout_for utf16_chars
returns c = record { all = refl; deletes = refl; writes = refl; least = refl; third = refl; named = refl; beyond = refl; full_book = refl; over = refl }
