-- What the laws of a client alone say of running cores. Lists of events have the newest first.
use Rattle.std.specs.Prelude.{◌≡◌, ◌↔◌, ℕ, true, List, [], ◌∷◌}
use Rattle.proxy_history.specs.Events.{Event}
use Rattle.proxy_history.specs.Coming.{MayCome, AreSound}
use Rattle.proxy_history.specs.Protocol.{Protocol}
use Rattle.proxy_state.specs.State.{Core, Handlers}
use Rattle.proxy_state.specs.Stands.{Kept, CanStep, Stands, waiting_for, is_owed}
use Rattle.proxy_solo.specs.Alone.{Alone}
use Rattle.proxy_solo.specs.Solo.{solo}
use Rattle.proxy_solo.specs.Law.{IsLetAlone}

-- ---- a core that meets these events ----

-- each connection that was dropped has been asked for
abbrev pub hung_up : {T S : Type 0} → Core T S → Core T S
hung_up core = record core { state = record core.state { table = record core.state.table { dropped = [] } } }

-- it meets them one after the other, and whom it dropped is asked for before the next
unfoldable pub core_after : {T S : Type 0} → (opened : Core T S) → (step : Event → Core T S → Core T S) → List Event → Core T S
core_after opened step [] = opened
core_after opened step (event ∷ events) = step event (hung_up (core_after opened step events))

-- what a core may step with is what may come
abbrev pub StepsWithWhatMayCome : {Known T S : Type 0} → Protocol Known → Kept Known T S → Handlers T S → Type 0
StepsWithWhatMayCome {T = T} {S = S} p k h = (event : Event) (events : List Event) (core : Core T S) → Stands p k events core → core.state.table.dropped ≡ [] → CanStep h event core ↔ MayCome p event events

-- so a core can meet all that may come, and stands for it
abbrev pub MeetsWhatMayCome : {Known T S : Type 0} → Protocol Known → Kept Known T S → (opened : Core T S) → (step : Event → Core T S → Core T S) → Type 0
MeetsWhatMayCome p k opened step = (events : List Event) → AreSound p events → Stands p k events (core_after opened step events)

-- ---- two cores ----

-- `core` met all these events, and `own` met what the client would meet alone: the same bytes wait for it in both, while both owe it any
abbrev pub QueueTheSame : {Known T S : Type 0} → Protocol Known → Kept Known T S → Alone → ℕ → List Event → (core own : Core T S) → Type 0
QueueTheSame p k a c events core own = IsLetAlone p c events → Stands p k events core → Stands p k (solo p a c events) own
    → is_owed c core ≡ true → is_owed c own ≡ true → waiting_for c core ≡ waiting_for c own
