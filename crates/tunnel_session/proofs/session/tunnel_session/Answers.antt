use Rattle.mbim_frame.specs.Frame.{size_of}
use Rattle.mbim_frame.specs.Framing.{size_of-begins, size_of-kept}
use Rattle.link_session.proofs.Hearing.{Stands-start}
use Rattle.tunnel_session.proofs.session.tunnel_session.Goals as goal

pub returns-clause-session : goal.returns-clause-session
returns-clause-session g c = c.carry_all.ensures.session (rw c.in_ok-incoming.ensures (Stands-start size_of size_of-kept size_of-begins))
