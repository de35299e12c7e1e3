-- A trace in two parts, and what holds of both. Lists of events have the newest first, and a trace is told in its order.
use Rattle.std.proofs.Common.{◌≡◌, ℕ, List, [], ◌∷◌, ◌++◌, fold}
use Rattle.proxy_history.specs.Events.{Event}
use Rattle.proxy_history.specs.Proxy.{Proxy}
use Rattle.rig_trace.specs.Rows.{Reading}
use Rattle.rig_trace.specs.declared.trace.Met.{Met}
use Rattle.rig_trace.specs.Alone.{meet_met, IsSame, IsSameAlone}

module _ (reading : Reading) (p : Proxy) (c : ℕ) where
  -- it is the same alone with each of them in turn
  abbrev pub AreSame : (own : List Event) → List Met → Type 0
  AreSame own [] = Unit {0}
  AreSame own (met ∷ trace) = IsSame reading p c own met × AreSame (meet_met reading p c own met) trace

  pub same_both : (own : List Event) (one other : List Met) → AreSame own one → AreSame (fold (meet_met reading p c) own one) other → AreSame own (one ++ other)
  same_both own [] other same more = more
  same_both own (met ∷ one) other same more = (same.0, same_both (meet_met reading p c own met) one other same.1 more)

  -- and in the end nothing more waits
  pub same_alone : (own : List Event) (trace : List Met) → AreSame own trace → p.waiting c (fold (meet_met reading p c) own trace) ≡ [] → IsSameAlone reading p c own trace
  unfolding IsSameAlone
  same_alone own [] same none = none
  same_alone own (met ∷ trace) same none = (same.0, same_alone (meet_met reading p c own met) trace same.1 none)
