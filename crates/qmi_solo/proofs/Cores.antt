-- Cores that met what all do, and what the client meets alone.
use Rattle.std.proofs.Common.{refl}
use Rattle.proxy_state.proofs.Waiting.{steps_may_come, may_step}
use Rattle.proxy_solo.proofs.Cores.{queue_the_same, meets_what_may_come}
use Rattle.qmi_proxy.specs.History.{qmi_protocol}
use Rattle.qmi_proxy.specs.Regular.{Regular}
use Rattle.qmi_state.specs.Core.{kept_of, opened}
use Rattle.qmi_state.specs.Transitions.{qmi_handlers, step}
use Rattle.qmi_state.proofs.Steps.{is_faithful, stands_open, stands_step}
use Rattle.qmi_solo.specs.Solo.{qmi_alone}
use Rattle.qmi_solo.specs.Cores.{CoresQueueTheSame, StepsAreWhatMayCome, CoresMeetWhatMayCome}
use Rattle.qmi_solo.proofs.Law.{gets_the_same_alone}

pub cores_queue_the_same : CoresQueueTheSame
cores_queue_the_same s c events core own client = queue_the_same (qmi_protocol s) (kept_of s) (qmi_alone s) c events core own (gets_the_same_alone s c events client)

pub steps_are_what_may_come : StepsAreWhatMayCome
steps_are_what_may_come s event events core S none = (
  λ can. steps_may_come (qmi_protocol s) (kept_of s) qmi_handlers Regular (is_faithful s) events core S event can,
  λ may. may_step (qmi_protocol s) (kept_of s) qmi_handlers Regular (is_faithful s) events core S none event may,
)

pub cores_meet_what_may_come : CoresMeetWhatMayCome
cores_meet_what_may_come s =
    meets_what_may_come (qmi_protocol s) (kept_of s) qmi_handlers (opened s) step (steps_are_what_may_come s) (stands_open s (opened s) refl)
    (λ event events core can stands. (stands_step s event events core can stands).stands)
