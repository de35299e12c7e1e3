-- The ledger of each rig keeps and counts what its facts say. Lists of events and of facts have the newest first.
use Rattle.std.proofs.Common.{◌+◌, ◌*◌, ℕ, ◌≤◌, List, refl, sym, ◌∙◌, arith}
use Rattle.proxy_history.specs.Events.{Event}
use Rattle.proxy_history.specs.Modem.{now}
use Rattle.proxy_history.specs.History as proxy
use Rattle.proxy_history.proofs.Folds.{time_agrees}
use Rattle.mbim_proxy.specs.Proxy.{proxy_of}
use Rattle.mbim_proxy.specs.History.{mbim_protocol, history}
use Rattle.mbim_proxy.proofs.Walk.{Asks, orderly}
use Rattle.rig_runs.specs.Mbim.{setup, cast, script, mbim_rig}
use Rattle.rig_runs.specs.MbimLines.{refuses, passes_share, summary}
use Rattle.rig_laws.proofs.Time.{rig_time}
use Rattle.rig_laws.proofs.Shares.{refusals_are_counted}
use Rattle.rig_laws_mbim.proofs.Harmless.{refused_for_shares}
use Rattle.rig_laws_mbim.proofs.Adding.{AreMoments}
use Rattle.rig_laws_mbim.proofs.Playing.{rig_stands}
use Rattle.rig_trace.specs.Rows.{ledger_of}
use Rattle.rig_trace.specs.Mbim.{mbim_reading}
use Rattle.rig_trace.specs.Laws.{most_turns, Counted}
use Rattle.trace_laws_mbim.specs.Laws.{RowsAreInUse, RequestsAreCounted}
use Rattle.trace_laws_mbim.proofs.Mirroring.{all_mirror}
use Rattle.trace_laws_mbim.proofs.Counting.{IsEarly, counted}

module _ (clients turns number : ℕ) (some : 1 ≤ clients) (within : clients ≤ 64) where
  abbrev events : List Event
  events = mbim_rig clients turns number

  moments : AreMoments events
  moments = (rig_stands clients some within turns number).going.moments

  -- so many turns take no longer
  ends_in_time : now (history setup events) ≤ 1000 * turns + 60000
  unfolding proxy.history now
  ends_in_time = rig_time (cast clients) script refl (λ event events. time_agrees (mbim_protocol setup) (Asks setup) (orderly setup) event events) turns number

  is_early : turns ≤ most_turns → IsEarly (history setup events)
  is_early few = let shown = ends_in_time in omega (arith, shown, few)

  rig_is_counted : turns ≤ most_turns → Counted (ledger_of mbim_reading (proxy_of setup) events).counts (summary setup clients turns events)
  rig_is_counted few =
      let all = counted events moments (is_early few) in
      record {
        forwarded = all.forwarded;
        answered = all.answered;
        expired = all.expired;
        late = all.late;
        refused = all.refused ∙ sym (refusals_are_counted (refuses setup) (passes_share setup) (λ c m past. refl) (history setup events) (refused_for_shares (history setup events) (rig_stands clients some within turns number).going.calm.harmless));
      }

pub rows_are_in_use : RowsAreInUse
rows_are_in_use clients turns number some within = all_mirror (mbim_rig clients turns number) (moments clients turns number some within)

pub requests_are_counted : RequestsAreCounted
requests_are_counted clients turns number some within few = rig_is_counted clients turns number some within few
