-- A session that was had over a link, which was closed then.
use Rattle.std.proofs.Common.{◌≡◌, ℕ, List, [], ◌∷◌, ◌++◌, Option, Result, refl}
use Rattle.kit_io.specs.Growth.{Grows}
use Rattle.kit_io.proofs.Growth.{Grows-append}
use Rattle.link_io.specs.Calls.{Call, Closed}
use Rattle.link_session.specs.declared.fault.SessionFault.{SessionFault}
use Rattle.table_following.specs.declared.end.FollowedEnd.{FollowedEnd}
use Rattle.table_following.specs.Plan.{Plan}
use Rattle.table_following.specs.Session.{GrowBy, Session}
use Rattle.tool_runs.specs.declared.run_end.RunEnd.{RunEnd}
use Rattle.table_following.specs.Following.{VisitsBy, end_by}

pub visited_so : {plan : Plan} {old mid new : Option (List Call)} {out_old out_new : Option (List ℕ)} {ends : RunEnd} (result : Result FollowedEnd SessionFault)
    → GrowBy (Session plan result) old mid out_old out_new → Grows mid (Closed ∷ []) new → ends ≡ end_by result → VisitsBy plan ends old new out_old out_new
visited_so result session closes is = record {
  calls = session.calls ++ Closed ∷ [];
  taken = session.taken;
  visits = record { own = session.calls; result = result; session = session.are; whole = refl; is = is };
  link_grows = Grows-append session.calls_grow closes;
  out_grows = session.taken_grow;
}
