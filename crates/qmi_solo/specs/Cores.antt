-- What the law of a client alone says of running cores of the QMI proxy. Lists of events have the newest first.
use Rattle.std.specs.Prelude.{◌≢◌, ℕ, List}
use Rattle.proxy_history.specs.Events.{Event}
use Rattle.proxy_solo.specs.Cores as alone
use Rattle.qmi_proxy.specs.Setup.{Setup}
use Rattle.qmi_proxy.specs.History.{qmi_protocol}
use Rattle.qmi_state.specs.Core.{QmiCore, kept_of, opened}
use Rattle.qmi_state.specs.Transitions.{qmi_handlers, step}
use Rattle.qmi_solo.specs.Solo.{qmi_alone}

-- what a core may step with is what may come
abbrev pub StepsAreWhatMayCome : Type 0
StepsAreWhatMayCome = (s : Setup) → alone.StepsWithWhatMayCome (qmi_protocol s) (kept_of s) qmi_handlers

-- so a core can meet all that may come, and stands for it
abbrev pub CoresMeetWhatMayCome : Type 0
CoresMeetWhatMayCome = (s : Setup) → alone.MeetsWhatMayCome (qmi_protocol s) (kept_of s) (opened s) step

-- a core that met all these events, and one that met what the client would meet alone, queue it the same bytes
abbrev pub CoresQueueTheSame : Type 0
CoresQueueTheSame = (s : Setup) (c : ℕ) (events : List Event) (core own : QmiCore) → c ≢ 0 → alone.QueueTheSame (qmi_protocol s) (kept_of s) (qmi_alone s) c events core own
