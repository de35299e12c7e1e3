-- What a running stage stands for. Lists of runs, of events and of requests have the newest first.
use Rattle.std.specs.Prelude.{◌≡◌, ℕ, List, ◌∷◌, Option}
use Rattle.std.specs.List.{range_with_len}
use Rattle.proxy_history.specs.Events.{Event}
use Rattle.proxy_history.specs.Orderly.{time_then}
use Rattle.proxy_history.specs.Proxy.{Proxy}
use Rattle.proxy_history.specs.Streams.{Framing}
use Rattle.sim_modem.specs.Sim.{Answering}
use Rattle.core_bench.specs.Runs.{Run}
use Rattle.rig_runs.specs.Stage.{Cast, Stage}
use Rattle.rig_stage.specs.Running.{Runs, IsCutShort}

-- what a running stage is seen as, beside the core
pub record World (M : Type 0) : Type 0 where
  pub modem : M
  -- the modem's messages that haven't arrived, the one that is held longest first
  pub held : List (List ℕ)
  -- how many clients there are, named from 1 on
  pub clients : ℕ
  -- in milliseconds
  pub time : ℕ

-- the modem was asked what the stage's was, and the same messages are held
pub record Holds {M : Type 0} (keeps : Answering → List (List ℕ) → M → Type 0) (size : Framing) (cast : Cast) (stage : Stage) (world : World M) : Type 0 where
  pub framing : cast.size ≡ size
  pub kept : keeps cast.modem stage.asked world.modem
  pub held : world.held ≡ stage.held

-- the stage goes on where the modem is asked something
pub record Asks {M : Type 0} (keeps : Answering → List (List ℕ) → M → Type 0) (size : Framing) (goes_on : Cast → Stage → Stage) (old new : World M) : Type 0 where
  pub holds : (cast : Cast) (stage : Stage) → Holds keeps size cast stage old → Holds keeps size cast (goes_on cast stage) new

-- only the clock sets the time of a proxy, and it never goes back
abbrev pub KeepsTime : Proxy → Type 0
KeepsTime p = (event : Event) (past : List Event) → p.time (event ∷ past) ≡ time_then event (p.time past)

-- it stands for this stage of this cast, in the newest run of a bench, which was opened like this behind the earlier ones
pub record Plays {B M : Type 0} (keeps : Proxy → List Event → B → Type 0) (tells : B → Option (List Run)) (asks : Answering → List (List ℕ) → M → Type 0) (size : Framing)
    (cast : Cast) (opened : Run) (earlier : List Run) (stage : Stage) (world : World M) (bench : B) : Type 0 where
  pub runs : Runs keeps tells cast.proxy opened earlier stage.events bench
  pub holds : Holds asks size cast stage world
  pub clients : cast.clients ≡ range_with_len 1 world.clients
  pub keeps_time : KeepsTime cast.proxy
  pub time : world.time ≡ cast.proxy.time stage.events

-- whichever stage it stands for, it goes on to this one
pub record Acts {B M : Type 0} (keeps : Proxy → List Event → B → Type 0) (tells : B → Option (List Run)) (asks : Answering → List (List ℕ) → M → Type 0) (size : Framing)
    (goes_on : Cast → Stage → Stage) (old : World M) (before : B) (new : World M) (after : B) : Type 0 where
  pub plays : (cast : Cast) (opened : Run) (earlier : List Run) (stage : Stage) → Plays keeps tells asks size cast opened earlier stage old before
      → Plays keeps tells asks size cast opened earlier (goes_on cast stage) new after

-- whichever stage it stands for, the run is cut short on the way to this one
pub record Stops {B M : Type 0} (keeps : Proxy → List Event → B → Type 0) (tells : B → Option (List Run)) (asks : Answering → List (List ℕ) → M → Type 0) (size : Framing)
    (goes_on : Cast → Stage → Stage) (old : World M) (before after : B) : Type 0 where
  pub cut_short : (cast : Cast) (opened : Run) (earlier : List Run) (stage : Stage) → Plays keeps tells asks size cast opened earlier stage old before
      → IsCutShort opened earlier (goes_on cast stage).events (tells after)
