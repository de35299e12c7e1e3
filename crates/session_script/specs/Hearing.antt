-- What the code's calls do, as what the session has heard.
use Rattle.std.specs.Prelude.{List, ℕ, Option, IfOk, Result}
use Rattle.kit_io.specs.Growth.{Grows}
use Rattle.framing.specs.declared.framing.Size.{Size}
use Rattle.framing.specs.Reading.{Reading}
use Rattle.link_io.specs.Calls.{Call}
use Rattle.link_session.specs.declared.fault.SessionFault.{SessionFault}
use Rattle.link_session.specs.Waiting.{Heard}
use Rattle.link_session.specs.Hearing.{Stands}
use Rattle.session_script.specs.Script.{Script, Plays}

-- calls were made by a script, and where it came to its end the session can go on
pub record Goes {E : Type 0} (size : List ℕ → Size) (script : Script E) (heard : Heard) (result : Result E SessionFault) (cutter : Reading) (before after : Option (List Call)) : Type 0 where
  pub calls : List Call
  pub later : Heard
  pub plays : Plays script heard calls result later
  pub stands : IfOk result (λ end. Stands size cutter later)
  pub grows : Grows before calls after
