use Rattle.std.proofs.Common.{refl}
use Rattle.qmi_services.proofs.Views.{format_views}
use Rattle.qmi_services.proofs.messages.rows.Goals as goal

pub returns : goal.returns
returns c = simp format_views refl
