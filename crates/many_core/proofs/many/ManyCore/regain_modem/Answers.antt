use Rattle.std.proofs.Common.{refl, ◌∙◌}
use Rattle.proxy_history.specs.Events as one
use Rattle.many_history.specs.Events.{ModemBack}
use Rattle.many_core.proofs.Meeting.{modem_is, modem_moves}
use Rattle.many_core.proofs.many.ManyCore.regain_modem.Goals as goal

pub returns-clause-met : goal.returns-clause-met
returns-clause-met c = c.meet_at.ensures.met ∙ modem_is c.args.self.now (ModemBack c.args.device) c.args.device (one.ModemBack) (λ e. refl) refl refl refl c.requires.hung_up

pub returns-clause-moved : goal.returns-clause-moved
returns-clause-moved c = λ none. modem_moves c.args.self.now (ModemBack c.args.device) c.args.device (one.ModemBack) (λ e. refl) refl (c.meet_at.ensures.fewer none) refl
