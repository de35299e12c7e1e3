-- A session for a request by tables.
use Rattle.std.specs.Prelude.{◌≡◌, List, Result, Ok, Err}
use Rattle.link_io.specs.Calls.{Call}
use Rattle.link_session.specs.declared.fault.SessionFault.{SessionFault}
use Rattle.link_session.specs.declared.fault.SessionFault.TheVariants as fault
use Rattle.session_script.specs.Script.{Performs}
use Rattle.request_session.specs.declared.ends.RequestEnd.{RequestEnd}
use Rattle.request_session.specs.Session.{session}
use Rattle.table_requests.specs.declared.session.TableEnd.{TableEnd}
use Rattle.table_requests.specs.Answers.{end_of}
use Rattle.table_requests.specs.Plan.{Plan}

-- what its end becomes; there may be no memory for it
abbrev pub EndsSo : Plan → Result RequestEnd SessionFault → Result TableEnd SessionFault → Type 0
EndsSo plan (Ok end) (Ok shown) = shown ≡ end_of plan end
EndsSo plan (Ok end) (Err why) = why ≡ fault.OutOfMemory
EndsSo plan (Err why) result = result ≡ Err why

-- the calls are those of the session for the request
pub record Session (plan : Plan) (calls : List Call) (result : Result TableEnd SessionFault) : Type 0 where
  pub ended : Result RequestEnd SessionFault
  pub performs : Performs (session plan.session) calls ended
  pub ends : EndsSo plan ended result
