use Rattle.tunnel_session.specs.Requests.{carried_message}
use Rattle.tunnel_session.proofs.message.carried_message.Goals as goal

pub returns : goal.returns
unfolding carried_message
returns c = rw (c.number.ensures, c.as_slice.ensures, c.in_ok-body.ensures.body) at c.split.ensures
