use Rattle.link_session.proofs.Sending.{Sends-order}
use Rattle.device_core.specs.Sending.{IsGood}
use Rattle.device_core.proofs.Sending.{Session-sends}
use Rattle.device_core.proofs.laws.sessions_send_their_requests.Goals as goal

pub returns : goal.returns
returns c = record {
  calls = λ plan calls result session. (Session-sends plan calls result session).each;
  requests = λ plan calls result session. let sends = Session-sends plan calls result session in (sends.choice, Sends-order IsGood sends);
}
