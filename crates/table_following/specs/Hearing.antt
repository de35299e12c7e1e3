-- What the code's calls do, as what the session has heard.
use Rattle.std.specs.Prelude.{ℕ, List, Option, Result, IfOk}
use Rattle.kit_io.specs.Growth.{Grows}
use Rattle.framing.specs.Reading.{Reading}
use Rattle.qmux_frame.specs.Frame.{size_of}
use Rattle.link_io.specs.Calls.{Call}
use Rattle.link_session.specs.declared.fault.SessionFault.{SessionFault}
use Rattle.link_session.specs.Waiting.{Heard}
use Rattle.link_session.specs.Hearing.{Stands}
use Rattle.request_session.specs.declared.client.Client.{Client}
use Rattle.request_session.specs.declared.ends.TlvAnswer.{TlvAnswer}
use Rattle.table_following.specs.Plan.{Plan}
use Rattle.table_following.specs.Session.{Tells}
use Rattle.table_following.specs.declared.end.FollowedEnd.{FollowedEnd}

-- an answer was told, behind which the session can go on
pub record TellsTo
    (plan : Plan)
    (client : Client)
    (answer : TlvAnswer)
    (heard : Heard)
    (told : Result FollowedEnd SessionFault)
    (cutter : Reading)
    (calls_before calls_after : Option (List Call))
    (taken_before taken_after : Option (List ℕ)) : Type 0 where
  pub takes : List Call
  pub now : Heard
  pub taken : List ℕ
  pub tells : Tells plan client answer heard takes told now taken
  pub stands : IfOk told (λ end. Stands size_of cutter now)
  pub calls_grow : Grows calls_before takes calls_after
  pub taken_grow : Grows taken_before taken taken_after
