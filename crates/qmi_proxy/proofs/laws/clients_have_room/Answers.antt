use Rattle.proxy_history.proofs.Rendering.{waiting_within}
use Rattle.qmi_proxy.specs.Limits.{outbox_limit}
use Rattle.qmi_proxy.specs.Text.{text, view_of}
use Rattle.qmi_proxy.specs.History.{history}
use Rattle.qmi_proxy.proofs.Room.{nobody_there_is_over}
use Rattle.qmi_proxy.proofs.laws.clients_have_room.Goals as goal

pub returns : goal.returns
returns c = record {
  nobody = nobody_there_is_over;
  within = λ s events client. waiting_within outbox_limit (text s.device) (view_of client (history s events));
}
