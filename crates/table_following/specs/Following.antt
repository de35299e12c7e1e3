-- What a command that follows indications does to its link and its children, and what is taken of its text.
use Rattle.std.specs.Prelude.{◌≡◌, ℕ, Bool, false, List, [], ◌∷◌, ◌++◌, Option, Result, Ok, Err}
use Rattle.kit_io.specs.Growth.{Grows}
use Rattle.link_io.specs.Calls.{Call, Closed}
use Rattle.child_io.specs.Calls as child
use Rattle.child_io.specs.Alive.{StandsFor}
use Rattle.modem_routes.specs.Routes.{Path}
use Rattle.modem_routes.specs.Reaching.{Reaches, StartsAndStops}
use Rattle.modem_routes.specs.declared.reaching.ReachFault.{ReachFault}
use Rattle.link_session.specs.declared.fault.SessionFault.{SessionFault}
use Rattle.link_following.specs.declared.end.FollowEnd.TheVariants.{LinkEnd, TurnsSpent, WriteFault}
use Rattle.table_following.specs.declared.end.FollowedEnd.{FollowedEnd}
use Rattle.table_following.specs.declared.end.FollowedEnd.TheVariants.{Refused, Followed}
use Rattle.table_following.specs.Plan.{Plan}
use Rattle.table_following.specs.Session.{Session}
use Rattle.tool_runs.specs.declared.run_end.RunEnd.{RunEnd}
use Rattle.tool_runs.specs.declared.run_end.RunEnd.TheVariants as run
use Rattle.tool_runs.specs.Asking as asking

-- ---- how it ends ----

-- a session that followed to the link's end, or to that of its turns, was done
abbrev pub end_of : FollowedEnd → RunEnd
end_of (Refused error) = run.Denied false error
end_of (Followed LinkEnd) = run.Done
end_of (Followed TurnsSpent) = run.Done
end_of (Followed WriteFault) = run.WriteFault

abbrev pub end_by : Result FollowedEnd SessionFault → RunEnd
end_by (Ok end) = end_of end
end_by (Err why) = asking.end_of why

-- ---- the command ----

-- the session was had over a link that is open, which was closed then
pub record Visits (plan : Plan) (ends : RunEnd) (calls : List Call) (taken : List ℕ) : Type 0 where
  pub own : List Call
  pub result : Result FollowedEnd SessionFault
  pub session : Session plan result own taken
  pub whole : calls ≡ own ++ Closed ∷ []
  pub is : ends ≡ end_by result

-- the modem was reached, and the session was had with it; or it wasn't reached, and nothing was shown
pub data Comes (path : Path) (plan : Plan) (ends : RunEnd) (on_link : List Call) (taken : List ℕ) (starts : List child.Call) : Type 0 where
  visited : (reaching calls : List Call) → Reaches path (Ok tt) reaching starts → Visits plan ends calls taken → on_link ≡ reaching ++ calls → Comes path plan ends on_link taken starts
  not_reached : (why : ReachFault) → Reaches path (Err why) on_link starts → ends ≡ asking.end_of_reaching why → taken ≡ [] → Comes path plan ends on_link taken starts

-- that came, and then each child that was started was stopped, behind the last call on the link and the output
pub record FollowsModem (path : Path) (plan : Plan) (before after : asking.Told) (result : RunEnd) : Type 0 where
  pub on_link : List Call
  pub taken : List ℕ
  pub starts : List child.Call
  pub ends : RunEnd
  pub comes : Comes path plan ends on_link taken starts
  pub link_grows : Grows before.link on_link after.link
  pub out_grows : Grows before.out taken after.out
  pub stopped : Bool
  pub children : StartsAndStops starts stopped after.made before.spawner after.spawner
  pub is : result ≡ asking.with_stops stopped ends

-- ---- what the code's calls do ----

pub record VisitsBy (plan : Plan) (ends : RunEnd) (link_old link_new : Option (List Call)) (out_old out_new : Option (List ℕ)) : Type 0 where
  pub calls : List Call
  pub taken : List ℕ
  pub visits : Visits plan ends calls taken
  pub link_grows : Grows link_old calls link_new
  pub out_grows : Grows out_old taken out_new

pub record ComesBy
    (path : Path)
    (plan : Plan)
    (ends : RunEnd)
    (link_old : Option (List Call))
    (out_old : Option (List ℕ))
    (spawner_old : Option (List child.Call))
    (kept : List ℕ)
    (link_new : Option (List Call))
    (out_new : Option (List ℕ))
    (spawner_new : Option (List child.Call)) : Type 0 where
  pub on_link : List Call
  pub taken : List ℕ
  pub starts : List child.Call
  pub comes : Comes path plan ends on_link taken starts
  pub link_grows : Grows link_old on_link link_new
  pub out_grows : Grows out_old taken out_new
  pub spawner_grows : Grows spawner_old starts spawner_new
  pub stands : StandsFor starts kept
