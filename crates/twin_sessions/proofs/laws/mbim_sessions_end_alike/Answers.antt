use Rattle.twin_sessions.proofs.MbimSessions.{sessions_end_alike, sessions_may_come}
use Rattle.twin_sessions.proofs.laws.mbim_sessions_end_alike.Goals as goal

pub returns : goal.returns
returns c = record { alike = sessions_end_alike; sound = sessions_may_come }
