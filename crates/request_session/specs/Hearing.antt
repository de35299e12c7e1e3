-- What reading an answer comes to.
use Rattle.std.specs.Prelude.{◌≡◌, Result, Err}
use Rattle.link_session.specs.declared.fault.SessionFault.{SessionFault}
use Rattle.link_session.specs.declared.fault.SessionFault.TheVariants as fault
use Rattle.link_session.specs.Marks.{Placed}
use Rattle.request_session.specs.declared.ends.TlvAnswer.{TlvAnswer}
use Rattle.request_session.specs.Session.{answer_in}

-- the answer, or that it is broken
abbrev pub ReadsAnswer : Placed → Result TlvAnswer SessionFault → Type 0
ReadsAnswer message (Err fault.OutOfMemory) = Unit {0}
ReadsAnswer message result = result ≡ answer_in message
