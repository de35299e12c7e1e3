-- What holds of the ledger of each rig for QMI. Lists of events and of facts have the newest first.
use Rattle.std.proofs.Common.{◌-◌, ◌^◌, ◌<◌, List, refl, ap, sym, ◌∙◌, arith}
use Rattle.proxy_history.specs.Events.{Event}
use Rattle.proxy_history.specs.Modem.{now}
use Rattle.qmi_proxy.specs.Proxy.{proxy_of}
use Rattle.qmi_proxy.specs.History.{history}
use Rattle.rig_runs.specs.Qmi.{setup, qmi_rig}
use Rattle.rig_runs.specs.Lines.{refuses, passes_share}
use Rattle.rig_laws.proofs.Law.{rigs_are_plain, rigs_are_harmless, rigs_end_in_time, refusals_are_for_shares}
use Rattle.rig_laws.proofs.Shares.{refusals_are_counted}
use Rattle.rig_trace.specs.declared.rows.Counts.{Counts}
use Rattle.rig_trace.specs.Rows.{ledger_of}
use Rattle.rig_trace.specs.Qmi.{qmi_reading}
use Rattle.trace_laws.specs.Laws.{RowsAreInUse, RequestsAreCounted}
use Rattle.trace_laws.proofs.Mirroring.{all_mirror}
use Rattle.trace_laws.proofs.Counting.{Tells}
use Rattle.trace_laws.proofs.Moments.{all_within, tells}

pub rows_are_in_use : RowsAreInUse
rows_are_in_use clients turns number some within =
    let events : List Event = qmi_rig clients turns number in
    all_mirror setup refl refl refl events (all_within setup events (rigs_are_harmless clients turns number some within)) (rigs_are_plain clients turns number some within)

pub requests_are_counted : RequestsAreCounted
requests_are_counted clients turns number some within few =
    let events : List Event = qmi_rig clients turns number in
    let late = rigs_end_in_time clients turns number some within in
    let early : now (history setup events) < 2 ^ 64 - 1 = omega (arith, late, few) in
    let told : Tells (history setup events) (ledger_of qmi_reading (proxy_of setup) events).counts =
    tells setup refl refl refl events (rigs_are_plain clients turns number some within) (rigs_are_harmless clients turns number some within) early in
    record {
      forwarded = ap (λ (k : Counts). k.forwarded) told.counts_are;
      answered = ap (λ (k : Counts). k.answered) told.counts_are;
      expired = ap (λ (k : Counts). k.expired) told.counts_are;
      late = ap (λ (k : Counts). k.late) told.counts_are;
      refused = ap (λ (k : Counts). k.refused) told.counts_are ∙ sym (refusals_are_counted (refuses setup) (passes_share setup) (λ c m past. refl) (history setup events) (refusals_are_for_shares clients turns number some within));
    }
