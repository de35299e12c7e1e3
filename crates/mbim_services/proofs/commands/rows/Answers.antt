use Rattle.std.proofs.Common.{refl}
use Rattle.mbim_fields.proofs.Views.{written_views}
use Rattle.mbim_services.proofs.commands.rows.Goals as goal

pub returns : goal.returns
returns c = simp written_views refl
