-- All clients of a rig on a running stage. Lists of runs and of events have the newest first.
use Rattle.std.specs.Prelude.{◌≡◌, ℕ, ◌+◌, ◌<◌, ◌≤◌, List, [], ◌∷◌, length, slice_index, Option}
use Rattle.std.specs.List.{range_with_len}
use Rattle.proxy_history.specs.Events.{Event}
use Rattle.proxy_history.specs.Proxy.{Proxy}
use Rattle.proxy_history.specs.Streams.{Framing}
use Rattle.sim_modem.specs.Sim.{Answering}
use Rattle.core_bench.specs.Runs.{Run}
use Rattle.rig_runs.specs.Rig.{Script, sent, next_number}
use Rattle.rig_runs.specs.Stage.{Cast, Stage}
use Rattle.rig_stage.specs.Running.{IsCutShort}
use Rattle.rig_stage.specs.Stage as running
use Rattle.rig_stage.specs.Stage.{World}

-- ---- who takes part, and what they say ----

abbrev pub cast_of : Proxy → Answering → Framing → (clients : ℕ) → Cast
cast_of proxy answers size clients = record { clients = range_with_len 1 clients; proxy = proxy; modem = answers; size = size }

-- two messages open the device
abbrev pub script_of : (opens_first opens_second : List ℕ) → ((conn choice number : ℕ) → List ℕ) → (number : ℕ) → Script
script_of opens_first opens_second asks number = record { opening = λ conn. opens_first ∷ opens_second ∷ []; request = asks; first = number }

-- ---- the clients on a stage ----

pub record Party (M : Type 0) : Type 0 where
  pub world : World M
  -- the number of each one's next request, in order of joining
  pub numbers : List ℕ

-- each has opened the device, and these are the numbers of their next requests
pub record AreNext (script : Script) (events : List Event) (numbers : List ℕ) : Type 0 where
  pub opened : (at : ℕ) → at < length numbers → length (script.opening (at + 1)) ≤ sent (at + 1) events
  pub next : (at : ℕ) → at < length numbers → slice_index numbers at ≡ next_number script (at + 1) events

-- the party stands for this stage, in the newest run of a bench, which was opened like this behind the earlier ones
pub record Plays {B M : Type 0} (keeps : Proxy → List Event → B → Type 0) (told : B → Option (List Run)) (asks : Answering → List (List ℕ) → M → Type 0) (size : Framing)
    (script : Script) (cast : Cast) (opened : Run) (earlier : List Run) (stage : Stage) (party : Party M) (bench : B) : Type 0 where
  pub stands : running.Plays keeps told asks size cast opened earlier stage party.world bench
  pub numbers : AreNext script stage.events party.numbers

-- whichever stage it stands for, it goes on to this one
pub record Takes {B M : Type 0} (keeps : Proxy → List Event → B → Type 0) (told : B → Option (List Run)) (asks : Answering → List (List ℕ) → M → Type 0) (size : Framing)
    (script : Script) (goes_on : Cast → Stage → Stage) (old : Party M) (before : B) (new : Party M) (after : B) : Type 0 where
  pub plays : (cast : Cast) (opened : Run) (earlier : List Run) (stage : Stage) → Plays keeps told asks size script cast opened earlier stage old before
      → Plays keeps told asks size script cast opened earlier (goes_on cast stage) new after

-- whichever stage it stands for, the run is cut short on the way to this one
pub record Halts {B M : Type 0} (keeps : Proxy → List Event → B → Type 0) (told : B → Option (List Run)) (asks : Answering → List (List ℕ) → M → Type 0) (size : Framing)
    (script : Script) (goes_on : Cast → Stage → Stage) (old : Party M) (before after : B) : Type 0 where
  pub cut_short : (cast : Cast) (opened : Run) (earlier : List Run) (stage : Stage) → Plays keeps told asks size script cast opened earlier stage old before
      → IsCutShort opened earlier (goes_on cast stage).events (told after)
