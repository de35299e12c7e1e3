use Rattle.std.proofs.Common.{sym, ◌∙◌}
use Rattle.mbim_session.proofs.Fragments.{hears-piece}
use Rattle.mbim_session.proofs.command_answer.CommandAnswerAwaitsMbim.hear.Goals as goal

pub returns-then-is_of-2-clause-hears : goal.returns-then-is_of-2-clause-hears
returns-then-is_of-2-clause-hears c = λ before has.
    hears-piece c.take.new.self before (record { place = c.args.place; bytes = c.args.message.now }) c.take.ensures.number (sym c.is_of.ensures ∙ c.if-is_of.false)
    (sym c.is_of-else-is_of.ensures ∙ c.if-is_of-2.true) c.take.result (c.take.ensures.hears _ has)
