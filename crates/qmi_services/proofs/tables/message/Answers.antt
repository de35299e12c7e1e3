use Rattle.std.proofs.Common.{refl}
use Rattle.qmi_services.proofs.tables.message.Goals as goal

pub returns : goal.returns
returns c = rw (c.in_ok-text.ensures, c.in_ok-inputs.ensures, c.in_ok-outputs.ensures) refl
