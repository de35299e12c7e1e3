-- Each client of a rig meets its part of the trace alone, and takes the same bytes. Lists of events have the newest first.
use Rattle.std.proofs.Common.{◌≡◌, ◌≢◌, ℕ, ◌≤◌, true, List, [], ap, sym, ◌∙◌, arith}
use Rattle.proxy_history.specs.Events.{Event}
use Rattle.proxy_history.specs.Connections.{contains, is_present}
use Rattle.proxy_history.specs.Rendering.{Rendering}
use Rattle.mbim_proxy.specs.Proxy.{proxy_of}
use Rattle.mbim_proxy.specs.History.{history, text_for}
use Rattle.mbim_solo.specs.Solo.{solo}
use Rattle.rig_runs.specs.Rig.{played, ended}
use Rattle.rig_runs.specs.Mbim.{setup, cast, script, mbim_rig}
use Rattle.rig_laws.proofs.Lists.{in_range}
use Rattle.rig_laws_mbim.proofs.Calm.{ready}
use Rattle.rig_laws_mbim.proofs.Stage.{Stands}
use Rattle.rig_laws_mbim.proofs.Trail.{standing}
use Rattle.rig_laws_mbim.proofs.Playing.{rig_stands}
use Rattle.rig_trace.specs.Trace.{trace_of}
use Rattle.rig_trace.specs.Mbim.{mbim_reading}
use Rattle.rig_trace.specs.Laws.{MeetsItsPart, TakesTheSame}
use Rattle.rig_trace.proofs.Chain.{same_alone}
use Rattle.trace_laws_mbim.specs.Laws.{EachMeetsItsPart, EachTakesTheSame}
use Rattle.trace_laws_mbim.proofs.Along.{text_alike}
use Rattle.trace_laws_mbim.proofs.Joins.{rigs_join_first}
use Rattle.trace_laws_mbim.proofs.Trace.{Follows, follows}

module _ (clients turns number : ℕ) (some : 1 ≤ clients) (within : clients ≤ 64) (c : ℕ) (low : 1 ≤ c) (high : c ≤ clients) where
  abbrev events : List Event
  events = mbim_rig clients turns number

  client : c ≢ 0
  client e = absurd (omega (arith, low, e))

  stood : Stands clients (ready clients clients clients) (ended (cast clients) (played (cast clients) script turns number))
  stood = rig_stands clients some within turns number

  all_follows : Follows c client low (omega (arith, high, within)) (standing (ready clients clients clients) stood.requests []) events
  all_follows = follows c client low (omega (arith, high, within)) events (standing (ready clients clients clients) stood.requests []) stood.going.trail stood.going.sound stood.going.moments (rigs_join_first clients turns number)

  meets_part : MeetsItsPart mbim_reading (proxy_of setup) (solo setup) c events
  meets_part = all_follows.met

  there : is_present c (history setup events) ≡ true
  there = ap (contains c) stood.going.calm.there ∙ in_range clients 1 c low (omega (arith, high))

  -- in the end nothing more waits
  none_waits : (text_for setup c (solo setup c events)).waiting ≡ []
  none_waits =
      ap (λ (r : Rendering). r.waiting) (sym (text_alike c client low (standing (ready clients clients clients) stood.requests []) events (solo setup c events) all_follows.along))
      ∙ stood.served c there

  takes_same : TakesTheSame mbim_reading (proxy_of setup) c events
  takes_same =
      same_alone mbim_reading (proxy_of setup) c [] (trace_of mbim_reading (proxy_of setup) events) all_follows.same
      (ap (λ (own : List Event). (text_for setup c own).waiting) all_follows.met ∙ none_waits)

pub each_meets_its_part : EachMeetsItsPart
each_meets_its_part clients turns number some within c low high = meets_part clients turns number some within c low high

pub each_takes_the_same : EachTakesTheSame
each_takes_the_same clients turns number some within c low high = takes_same clients turns number some within c low high
