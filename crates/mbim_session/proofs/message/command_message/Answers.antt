use Rattle.mbim_session.specs.Requests.{command_message}
use Rattle.mbim_session.proofs.message.command_message.Goals as goal

pub returns : goal.returns
unfolding command_message
returns c = rw (c.number.ensures, c.as_slice.ensures, c.in_ok-body.ensures.body) at c.split.ensures
