use Rattle.std.proofs.Common.{length, sym, ◌∙◌, subst}
use Rattle.framing.specs.declared.framing.Size.{Size}
use Rattle.framing.specs.Framing.{IsShort}
use Rattle.many_seats.proofs.Choices.{bad_choice, no_choice}
use Rattle.many_seats.proofs.paths.Paths.choice.Goals as goal

pub returns-in-Invalid-clause-choice : goal.returns-in-Invalid-clause-choice
returns-in-Invalid-clause-choice c = λ time_limit release. bad_choice c.args.self.now time_limit release c.args.stream.now (sym c.size.ensures ∙ c.in-Invalid.is)

pub returns-in-Unknown-clause-choice : goal.returns-in-Unknown-clause-choice
returns-in-Unknown-clause-choice c = λ time_limit release.
    no_choice c.args.self.now time_limit release c.args.stream.now (subst (λ (size : Size). IsShort size (length c.args.stream.now)) (sym (sym c.size.ensures ∙ c.in-Unknown.is)) tt)
