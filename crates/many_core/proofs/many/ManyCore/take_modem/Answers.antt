use Rattle.std.proofs.Common.{◌≤◌, length, refl, ◌∙◌, subst, Option}
use Rattle.qmi_state.specs.Core.{QmiCore}
use Rattle.qmi_state.specs.Transitions.{qmi_handlers}
use Rattle.many_state.specs.Core.{modem_queue_of}
use Rattle.many_cores.proofs.Places.{got_at}
use Rattle.proxy_history.specs.Events as one
use Rattle.many_history.specs.Events.{ModemTook}
use Rattle.many_core.proofs.Meeting.{modem_is, modem_moves}
use Rattle.many_core.proofs.many.ManyCore.take_modem.Goals as goal

pub returns-clause-met : goal.returns-clause-met
returns-clause-met c = c.meet_at.ensures.met ∙ modem_is c.args.self.now (ModemTook c.args.device c.args.count) c.args.device (one.ModemTook c.args.count) (λ e. refl) refl refl refl c.requires.hung_up

pub returns-clause-moved : goal.returns-clause-moved
returns-clause-moved c = λ none. modem_moves c.args.self.now (ModemTook c.args.device c.args.count) c.args.device (one.ModemTook c.args.count) (λ e. refl) refl (c.meet_at.ensures.fewer none) refl

pub meet_at-requires-clause-may_come : goal.meet_at-requires-clause-may_come
meet_at-requires-clause-may_come c = λ core at.
    subst (λ (o : Option QmiCore). c.args.count ≤ length (modem_queue_of qmi_handlers o)) (got_at c.args.self.now.core.cores c.args.device core c.requires.may_come.0 at) c.requires.may_come.1
