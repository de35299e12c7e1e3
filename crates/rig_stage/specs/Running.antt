-- What runs on a bench. Lists of runs and of events have the newest first.
use Rattle.std.specs.Prelude.{◌≡◌, List, ◌∷◌, ◌++◌, Option, Some, None}
use Rattle.proxy_history.specs.Events.{Event}
use Rattle.proxy_history.specs.Proxy.{Proxy}
use Rattle.core_bench.specs.Runs.{Run}

-- where a bench tells its runs, they are these
abbrev pub AreRecorded : Option (List Run) → List Run → Type 0
AreRecorded None runs = Unit {0}
AreRecorded (Some told) runs = told ≡ runs

-- the core keeps what a proxy has to keep of these events, and the newest run of the bench, which was opened like this behind the earlier ones, met them
pub record Runs {B : Type 0} (keeps : Proxy → List Event → B → Type 0) (tells : B → Option (List Run)) (p : Proxy) (opened : Run) (earlier : List Run) (past : List Event) (bench : B) : Type 0 where
  pub kept : keeps p past bench
  pub told : AreRecorded (tells bench) (record opened { events = past } ∷ earlier)

-- what ran goes on from some events to these
pub record Moves {B : Type 0} (keeps : Proxy → List Event → B → Type 0) (tells : B → Option (List Run)) (goes_on : Proxy → List Event → List Event) (old new : B) : Type 0 where
  pub runs : (p : Proxy) (opened : Run) (earlier : List Run) (past : List Event) → Runs keeps tells p opened earlier past old → Runs keeps tells p opened earlier (goes_on p past) new

-- ---- where memory runs out ----

-- the newer list is the older one with more events
pub record Extends (old new : List Event) : Type 0 where
  pub more : List Event
  pub is : new ≡ more ++ old

-- the newest run, which was opened like this behind the earlier ones, met no more of these events than those that come first
pub record IsCutShort (opened : Run) (earlier : List Run) (all : List Event) (now : Option (List Run)) : Type 0 where
  pub met : List Event
  pub within : Extends met all
  pub told : AreRecorded now (record opened { events = met } ∷ earlier)
