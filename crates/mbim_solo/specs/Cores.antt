-- What the law of a client alone says of running cores of the MBIM proxy. Lists of events have the newest first.
use Rattle.std.specs.Prelude.{◌≢◌, ℕ, List}
use Rattle.proxy_history.specs.Events.{Event}
use Rattle.proxy_solo.specs.Cores as alone
use Rattle.mbim_proxy.specs.Setup.{Setup}
use Rattle.mbim_proxy.specs.History.{mbim_protocol}
use Rattle.mbim_state.specs.Core.{MbimCore, HasNumbers, kept_of, opened_core}
use Rattle.mbim_state.specs.Transitions.{mbim_handlers, step}
use Rattle.mbim_solo.specs.Solo.{mbim_alone}
use Rattle.mbim_solo.specs.Law.{IsRoomy}

-- what a core may step with is what may come
abbrev pub StepsAreWhatMayCome : Type 0
StepsAreWhatMayCome = (s : Setup) → HasNumbers s → alone.StepsWithWhatMayCome (mbim_protocol s) (kept_of s) (mbim_handlers s)

-- so a core can meet all that may come, and stands for it
abbrev pub CoresMeetWhatMayCome : Type 0
CoresMeetWhatMayCome = (s : Setup) → HasNumbers s → alone.MeetsWhatMayCome (mbim_protocol s) (kept_of s) (opened_core s) (step s)

-- a core that met all these events, and one that met what the client would meet alone, queue it the same bytes
abbrev pub CoresQueueTheSame : Type 0
CoresQueueTheSame = (s : Setup) (c : ℕ) (events : List Event) (core own : MbimCore) → IsRoomy s → c ≢ 0 → alone.QueueTheSame (mbim_protocol s) (kept_of s) (mbim_alone s) c events core own
