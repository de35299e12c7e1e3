-- A client's run alone that is cut short. Lists of runs and of events have the newest first, and a trace is told in its order.
use Rattle.std.proofs.Common.{ℕ, Bool, true, false, ◌==◌, if◌then◌else◌, List, [], ◌∷◌, fold, length, Option, Some, None, subst}
use Rattle.proxy_history.specs.Events.{Event, Joined, Piece, ModemPiece, Now, Took, ModemTook}
use Rattle.proxy_history.specs.Proxy.{Proxy}
use Rattle.core_bench.specs.Runs.{Run}
use Rattle.rig_stage.specs.Running.{Extends, IsCutShort}
use Rattle.rig_stage.proofs.Stopping.{none_more, one_more, more_then, taking_more}
use Rattle.rig_trace.specs.Rows.{Reading}
use Rattle.rig_trace.specs.declared.Met.{Met}
use Rattle.rig_trace.specs.declared.Met.TheVariants.{Joins, Said, Heard, Takes, ClockShows}
use Rattle.rig_trace.specs.Alone.{meets, hears, own_number, meet_met, met_alone}
use Rattle.rig_notes.proofs.Meeting.{HasMet}

meets_more : (p : Proxy) (event : Event) (own : List Event) → Extends own (meets p event own)
meets_more p event own = more_then (one_more event own) (taking_more (λ count. ModemTook count) (length (p.waiting_for_modem (event ∷ own))) (event ∷ own))

met_if_more : (test : Bool) (met own : List Event) → Extends own met → Extends own (if test then met else own)
met_if_more true met own more = more
met_if_more false met own more = none_more own

module _ (reading : Reading) (p : Proxy) (c : ℕ) where
  hears_more : (number : Option ℕ) (m : List ℕ) (own : List Event) → Extends own (hears reading p number m own)
  hears_more None m own = none_more own
  hears_more (Some number) m own = meets_more p (ModemPiece (reading.with_number number m)) own

  met_more : (met : Met) (own : List Event) → Extends own (meet_met reading p c own met)
  met_more (Joins d) own = met_if_more (d == c) (meets p (Joined c) own) own (meets_more p (Joined c) own)
  met_more (Said d m) own = met_if_more (d == c) (meets p (Piece c m) own) own (meets_more p (Piece c m) own)
  met_more (Heard d place m) own = met_if_more (d == c) (hears reading p (own_number reading p c place own) m own) own (hears_more (own_number reading p c place own) m own)
  met_more (Takes d bytes) own = met_if_more (d == c) (meets p (Took c (length bytes)) own) own (meets_more p (Took c (length bytes)) own)
  met_more (ClockShows time) own = meets_more p (Now time) own

  trace_more : (trace : List Met) (own : List Event) → Extends own (fold (meet_met reading p c) own trace)
  trace_more [] own = none_more own
  trace_more (met ∷ trace) own = more_then (met_more met own) (trace_more trace (meet_met reading p c own met))

-- the client met its part but for what is left
pub stops_short : {B : Type 0} {keeps : Proxy → List Event → B → Type 0} {tells : B → Option (List Run)} (reading : Reading) (c : ℕ) (trace rest : List Met) (fresh : Bool) (p : Proxy) (opened : Run) (earlier : List Run) (bench : B)
    → HasMet keeps tells reading c trace rest fresh p opened earlier bench → IsCutShort opened earlier (met_alone reading p c trace) (tells bench)
stops_short reading c trace rest fresh p opened earlier bench has = record {
  met = has.own;
  within = subst (λ all. Extends has.own all) has.whole (trace_more reading p c rest has.own);
  told = has.runs.told;
}
