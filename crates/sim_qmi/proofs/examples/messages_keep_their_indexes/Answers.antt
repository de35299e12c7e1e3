use Rattle.std.proofs.Common.{refl}
use Rattle.framing.specs.Cutting.{cut_from}
use Rattle.qmux_frame.specs.Writing.{head_text}
use Rattle.qmi_services.specs.Modem.{row_at}
use Rattle.sim_qmi.specs.State.{client_ids}
use Rattle.sim_qmi.proofs.examples.messages_keep_their_indexes.Goals as goal

pub returns : goal.returns
unfolding cut_from head_text row_at client_ids
returns c = record {
  listed = refl;
  deleted = refl;
  left = refl;
  third = refl;
  gone = refl;
  again = refl;
  no_index = refl;
}
