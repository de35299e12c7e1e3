-- A text of a client that is alone, on a bench on which a proxy's core runs. Lists of events and of runs have the newest first.
use Rattle.std.specs.Prelude.{◌≡◌, ℕ, List, Option}
use Rattle.proxy_history.specs.Events.{Event}
use Rattle.proxy_history.specs.Proxy.{Proxy}
use Rattle.proxy_history.specs.Streams.{Framing}
use Rattle.core_bench.specs.Runs.{Run}
use Rattle.rig_stage.specs.Running.{Runs}
use Rattle.lone_client.specs.Relay.{Answering, Cast, Stage, ask, reply}

-- a stage of a cast stands on a bench, in its newest run, which was opened like this behind the earlier ones, and a modem was asked what the stage's was
pub record IsRelayed {B M : Type 0} (keeps : Proxy → List Event → B → Type 0) (tells : B → Option (List Run)) (asks : Answering → List (List ℕ) → M → Type 0)
    (cast : Cast) (opened : Run) (earlier : List Run) (stage : Stage) (bench : B) (sim : M) : Type 0 where
  pub runs : Runs keeps tells cast.proxy opened earlier stage.events bench
  pub kept : asks cast.modem stage.asked sim

-- whichever stage stands there, the text was relayed, and this is the reply to it
pub record Relays {B M : Type 0} (keeps : Proxy → List Event → B → Type 0) (tells : B → Option (List Run)) (asks : Answering → List (List ℕ) → M → Type 0) (size : Framing)
    (text : List ℕ) (before after : B) (old new : M) (said : List ℕ) : Type 0 where
  pub stands : (cast : Cast) (opened : Run) (earlier : List Run) (stage : Stage) → cast.size ≡ size → IsRelayed keeps tells asks cast opened earlier stage before old
      → IsRelayed keeps tells asks cast opened earlier (ask cast text stage) after new
  pub replies : (cast : Cast) (opened : Run) (earlier : List Run) (stage : Stage) → cast.size ≡ size → IsRelayed keeps tells asks cast opened earlier stage before old
      → said ≡ reply cast text stage
