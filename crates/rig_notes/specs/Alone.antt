-- What runs on a noting bench of a client that is alone. Lists of runs and of events have the newest first, and a trace is told in its order.
use Rattle.std.specs.Prelude.{◌≡◌, ℕ, Bool, true, false, ◌==◌, ◌&&◌, nat_eq, nat_le, if◌then◌else◌, List, [], ◌∷◌, length, Option, Some, None}
use Rattle.std.specs.List.{starts_with}
use Rattle.proxy_history.specs.Events.{Event}
use Rattle.proxy_history.specs.Coming.{piece_limit}
use Rattle.proxy_history.specs.Connections.{contains}
use Rattle.proxy_history.specs.Proxy.{Proxy}
use Rattle.core_bench.specs.Runs.{Run}
use Rattle.rig_stage.specs.Running.{Runs, IsCutShort}
use Rattle.rig_trace.specs.Rows.{Reading}
use Rattle.rig_trace.specs.declared.Met.{Met}
use Rattle.rig_trace.specs.declared.Met.TheVariants.{Joins, Said, Heard, Takes, ClockShows}
use Rattle.rig_trace.specs.Alone.{own_number, meet_met, met_alone}

-- the client meets something where this is met
abbrev pub is_met : ℕ → Met → Bool
is_met c (Joins d) = d == c
is_met c (Said d m) = d == c
is_met c (Heard d place m) = d == c
is_met c (Takes d bytes) = d == c
is_met c (ClockShows time) = true

-- ---- what fits a client that is alone ----

-- the bytes that wait for the client; for one that isn't there none do
abbrev pub queue_for : Proxy → ℕ → List Event → List ℕ
queue_for p c own = if contains c (p.present own) then p.waiting c own else []

-- an answer under this number that comes whole
abbrev pub is_short : Reading → Option ℕ → (message : List ℕ) → Bool
is_short reading None m = false
is_short reading (Some number) m = nat_le (length (reading.with_number number m)) piece_limit

-- it comes before it met anything, speaks in one piece, has asked for what it hears, and takes bytes that wait for it; `own` is what it met so far, which is
-- nothing where it is fresh
abbrev pub is_fit : Reading → Proxy → ℕ → (fresh : Bool) → (own : List Event) → Met → Bool
is_fit reading p c fresh own (Joins d) = if d == c then fresh else true
is_fit reading p c fresh own (Said d m) = if d == c then nat_le (length m) piece_limit else true
is_fit reading p c fresh own (Heard d place m) = if d == c then is_short reading (own_number reading p c place own) m else true
is_fit reading p c fresh own (Takes d bytes) = if d == c then starts_with nat_eq (queue_for p c own) bytes else true
is_fit reading p c fresh own (ClockShows time) = true

-- so it is with each of them in turn, and in the end nothing more waits for it
unfoldable pub is_fit_alone : Reading → Proxy → ℕ → (own : List Event) → List Met → Bool
is_fit_alone reading p c own [] = length (queue_for p c own) == 0
is_fit_alone reading p c own (met ∷ trace) = is_fit reading p c (length own == 0) own met && is_fit_alone reading p c (meet_met reading p c own met) trace

-- ---- what runs ----

-- it says just whether it fits the events that it runs on, and where it does, it goes on to these
pub record GoesOn {B : Type 0} (keeps : Proxy → List Event → B → Type 0) (tells : B → Option (List Run)) (fits : Proxy → List Event → Bool) (goes_on : Proxy → List Event → List Event)
    (old new : B) (same : Bool) : Type 0 where
  pub told : (p : Proxy) (past : List Event) → keeps p past old → same ≡ fits p past
  pub runs : (p : Proxy) (opened : Run) (earlier : List Run) (past : List Event) → Runs keeps tells p opened earlier past old → same ≡ true → Runs keeps tells p opened earlier (goes_on p past) new

-- on a core that was just opened it says just whether the client's part of the trace fits it alone, and where it does, that was run
pub record RunsAlone {B : Type 0} (keeps : Proxy → List Event → B → Type 0) (tells : B → Option (List Run)) (reading : Reading) (c : ℕ) (trace : List Met) (old new : B) (same : Bool) : Type 0 where
  pub told : (p : Proxy) (opened : Run) (earlier : List Run) → Runs keeps tells p opened earlier [] old → same ≡ is_fit_alone reading p c [] trace
  pub runs : (p : Proxy) (opened : Run) (earlier : List Run) → Runs keeps tells p opened earlier [] old → same ≡ true → Runs keeps tells p opened earlier (met_alone reading p c trace) new

-- the run of that is cut short
pub record StopsAlone {B : Type 0} (keeps : Proxy → List Event → B → Type 0) (tells : B → Option (List Run)) (reading : Reading) (c : ℕ) (trace : List Met) (old new : B) : Type 0 where
  pub cut_short : (p : Proxy) (opened : Run) (earlier : List Run) → Runs keeps tells p opened earlier [] old → IsCutShort opened earlier (met_alone reading p c trace) (tells new)
