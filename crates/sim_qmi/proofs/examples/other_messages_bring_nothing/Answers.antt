use Rattle.std.proofs.Common.{refl}
use Rattle.framing.specs.Cutting.{cut_from}
use Rattle.qmux_frame.specs.Writing.{head_text}
use Rattle.qmi_services.specs.Modem.{row_at}
use Rattle.sim_qmi.specs.State.{client_ids}
use Rattle.sim_qmi.proofs.examples.other_messages_bring_nothing.Goals as goal

pub returns : goal.returns
unfolding cut_from head_text row_at client_ids
returns c = record {
  unframed_brings = refl;
  response_brings = refl;
}
