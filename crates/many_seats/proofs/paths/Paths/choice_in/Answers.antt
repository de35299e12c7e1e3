use Rattle.std.proofs.Common.{◌≤◌, ◌<◌, length, Some, ap, sym, ◌∙◌, subst, arith}
use Rattle.std.proofs.lemmas.Bool.Decides.{nat_tests}
use Rattle.framing.specs.declared.framing.Size.{Size}
use Rattle.framing.specs.Framing.{IsShort}
use Rattle.many_seats.proofs.Choices.{first_choice, no_choice}
use Rattle.many_seats.proofs.paths.Paths.choice_in.Goals as goal

pub returns-then-count-stream-clause-choice : goal.returns-then-count-stream-clause-choice
returns-then-count-stream-clause-choice c = λ time_limit release.
    let within : c.args.count ≤ length c.args.stream.now = grind (arith, nat_tests, c.if-count-stream.true) in
    ap Some c.device_of.ensures.choice ∙ first_choice c.args.self.now time_limit release c.args.stream.now c.args.count c.requires within

pub returns-else-count-stream-clause-choice : goal.returns-else-count-stream-clause-choice
returns-else-count-stream-clause-choice c = λ time_limit release.
    let short : length c.args.stream.now < c.args.count = grind (arith, nat_tests, c.if-count-stream.false) in
    no_choice c.args.self.now time_limit release c.args.stream.now (subst (λ (size : Size). IsShort size (length c.args.stream.now)) (sym c.requires) short)
