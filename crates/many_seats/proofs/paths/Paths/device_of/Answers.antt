use Rattle.std.specs.Prelude.{option_copied}
use Rattle.std.proofs.Common.{ap, ◌∙◌}
use Rattle.qmi_proxy.specs.Messages.{equals}
use Rattle.many_seats.proofs.Choices.{none_is_first}
use Rattle.many_seats.proofs.paths.Paths.device_of.Goals as goal

pub returns-in-None-clause-choice : goal.returns-in-None-clause-choice
returns-in-None-clause-choice c = none_is_first c.args.self.now c.args.message.now (λ path. c.opened_path.ensures path ∙ ap (λ o. equals path (option_copied o)) c.in-None.is)
