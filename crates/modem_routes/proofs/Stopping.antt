-- Children that are kept stand for the calls, and those that were started are stopped.
use Rattle.std.proofs.Common.{◌≡◌, ℕ, Bool, List, Option, Result, ◌∙◌, ◌++◌, is_ok, subst, append_assoc}
use Rattle.kit_io.specs.Growth.{Grows}
use Rattle.kit_io.proofs.Growth.{Grows-append}
use Rattle.child_io.specs.Calls.{Call}
use Rattle.child_io.specs.Alive.{StandsFor}
use Rattle.child_io.specs.Kids.{StopsEach}
use Rattle.modem_routes.specs.Reaching.{StartsAndStops}

pub stand_behind : (calls first later : List Call) {kept : List ℕ} → StandsFor ((calls ++ first) ++ later) kept → StandsFor (calls ++ (first ++ later)) kept
stand_behind calls first later {kept} stands = subst (λ (l : List Call). StandsFor l kept) (append_assoc calls first later) stands

pub each_is_stopped : {T E : Type 0} {starts : List Call} {kept : List ℕ} {after made : ℕ} {old mid new : Option (List Call)} {result : Result T E} {stopped : Bool}
    → Grows old starts mid → StandsFor starts kept → StopsEach kept after mid result new → stopped ≡ is_ok result → after ≡ made → StartsAndStops starts stopped made old new
each_is_stopped {starts = starts} {old = old} {new = new} {stopped = stopped} grows stands stops is behind =
    subst (λ (n : ℕ). StartsAndStops starts stopped n old new) behind
    (record {
      tries = stops.tries;
      each = stops.each ∙ stands;
      all = is ∙ stops.all;
      grows = Grows-append grows stops.grows;
      left = stops.leaves starts stands;
    })
