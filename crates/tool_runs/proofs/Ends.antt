-- What a command's end tells of.
use Rattle.std.proofs.Common.{◌≡◌, ℕ, ◌≤◌, List, [], ◌∷◌, ◌++◌, Option, Result, Ok, Err, is_ok, refl, arith}
use Rattle.kit_io.specs.Causes.{Rose, HasCause}
use Rattle.kit_io.specs.Growth.{Grows}
use Rattle.kit_io.proofs.Growth.{Grows-append}
use Rattle.link_io.specs.Calls.{Call, Closed}
use Rattle.link_session.specs.declared.fault.SessionFault.{SessionFault}
use Rattle.link_session.specs.Asking.{Makes}
use Rattle.tool_runs.specs.declared.run_end.RunEnd.{RunEnd}
use Rattle.tool_runs.specs.declared.run_end.RunEnd.TheVariants as run
use Rattle.tool_runs.specs.Asking.{Asked, Says, Visits, with_stops}

-- a session that was had over a link that was closed then
pub visited_so : {End : Type 0} {asked : Asked End} {old mid new : Option (List Call)} {out printed : Option (List ℕ)} {ends : RunEnd} (result : Result End SessionFault)
    → Makes (λ (calls : List Call). asked.Session calls result) old mid → Grows mid (Closed ∷ []) new → Says asked.refused asked.printed result out ends printed → Visits asked old new out ends printed
visited_so result makes closes says = record {
  result = result;
  calls = makes.calls ++ Closed ∷ [];
  exchange = record { own = makes.calls; session = makes.are; whole = refl };
  grows = Grows-append makes.grows closes;
  says = says;
}

-- a start fault comes of a start that failed, or of a stop
pub start_fault_comes : {T E : Type 0} {old mid new : ℕ} (result : Result T E) (ends : RunEnd) → old ≤ mid → (ends ≡ run.StartFault → Rose old mid) → HasCause mid new result
    → with_stops (is_ok result) ends ≡ run.StartFault → Rose old new
start_fault_comes (Ok t) ends later started stops is = let rose = started is in omega (arith, rose, stops.later)
start_fault_comes (Err e) ends later started stops is = omega (arith, later, stops.failed)
