use Rattle.link_session.proofs.Sending.{Sends-order}
use Rattle.mbim_session.specs.Sending.{IsGood}
use Rattle.mbim_session.proofs.Sending.{Session-sends}
use Rattle.mbim_session.proofs.laws.sessions_send_their_messages.Goals as goal

pub returns : goal.returns
returns c = record {
  calls = λ plan calls result session. (Session-sends plan calls result session).each;
  messages = λ plan calls result session. Sends-order IsGood (Session-sends plan calls result session);
}
