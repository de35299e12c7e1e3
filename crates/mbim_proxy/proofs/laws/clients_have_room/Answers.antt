use Rattle.proxy_history.specs.Wording.{text_behind}
use Rattle.proxy_history.proofs.Rendering.{waiting_within}
use Rattle.proxy_history.proofs.Walk.{all_fit}
use Rattle.mbim_proxy.specs.Step.{view_of}
use Rattle.mbim_proxy.specs.Text.{mbim_wording}
use Rattle.mbim_proxy.specs.History.{mbim_protocol, history}
use Rattle.mbim_proxy.proofs.Walk.{Asks, orderly}
use Rattle.mbim_proxy.proofs.laws.clients_have_room.Goals as goal

pub returns : goal.returns
returns c = record {
  nobody = λ s events. all_fit (mbim_protocol s) (Asks s) (orderly s) events;
  within = λ s events client. waiting_within s.limits.outbox (text_behind (mbim_wording s)) (view_of client (history s events));
}
