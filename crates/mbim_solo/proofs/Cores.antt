-- Cores that met what all do, and what the client meets alone.
use Rattle.std.proofs.Common.{refl}
use Rattle.proxy_state.proofs.Waiting.{steps_may_come, may_step}
use Rattle.proxy_solo.proofs.Cores.{queue_the_same, meets_what_may_come}
use Rattle.mbim_proxy.specs.History.{mbim_protocol}
use Rattle.mbim_state.specs.Core.{kept_of, opened_core}
use Rattle.mbim_state.specs.Transitions.{mbim_handlers, step}
use Rattle.mbim_state.proofs.Regular.{Regular}
use Rattle.mbim_state.proofs.Faithful.{is_faithful}
use Rattle.mbim_state.proofs.Steps.{stands_open, stands_step}
use Rattle.mbim_solo.specs.Solo.{mbim_alone}
use Rattle.mbim_solo.proofs.Law.{gets_the_same_alone}
use Rattle.mbim_solo.specs.Cores.{CoresQueueTheSame, StepsAreWhatMayCome, CoresMeetWhatMayCome}

pub cores_queue_the_same : CoresQueueTheSame
cores_queue_the_same s c events core own roomy client = queue_the_same (mbim_protocol s) (kept_of s) (mbim_alone s) c events core own (gets_the_same_alone s c events roomy client)

pub steps_are_what_may_come : StepsAreWhatMayCome
steps_are_what_may_come s within event events core S none = (
  λ can. steps_may_come (mbim_protocol s) (kept_of s) (mbim_handlers s) (Regular s) (is_faithful s within) events core S event can,
  λ may. may_step (mbim_protocol s) (kept_of s) (mbim_handlers s) (Regular s) (is_faithful s within) events core S none event may,
)

pub cores_meet_what_may_come : CoresMeetWhatMayCome
cores_meet_what_may_come s within =
    meets_what_may_come (mbim_protocol s) (kept_of s) (mbim_handlers s) (opened_core s) (step s) (steps_are_what_may_come s within) (stands_open s within (opened_core s) refl)
    (λ event events core can stands. (stands_step s within event events core can stands).stands)
