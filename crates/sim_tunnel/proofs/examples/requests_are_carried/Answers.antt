use Rattle.std.proofs.Common.{refl}
use Rattle.framing.specs.Cutting.{cut_from}
use Rattle.qmux_frame.specs.Writing.{head_text}
use Rattle.mbim_services.specs.Table.{layout_for}
use Rattle.qmi_services.specs.Modem.{row_at}
use Rattle.sim_qmi.specs.State.{client_ids}
use Rattle.sim_tunnel.proofs.examples.requests_are_carried.Goals as goal

pub returns : goal.returns
unfolding cut_from head_text layout_for row_at client_ids
returns c = record { versions = refl; before = refl; ragged = refl; query = refl }
