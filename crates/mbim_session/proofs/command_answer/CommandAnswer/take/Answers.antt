use Rattle.std.proofs.Common.{Some, ap}
use Rattle.mbim_session.proofs.Fragments.{hears-more, hears-last, hears-broken}
use Rattle.mbim_session.proofs.command_answer.CommandAnswer.take.Goals as goal

pub returns-in-More-clause-hears : goal.returns-in-More-clause-hears
returns-in-More-clause-hears c = λ pieces has.
    hears-more c.args.self.now pieces (record { place = c.args.place; bytes = c.args.message.now }) has c.if-message-lt20.false c.in-More.ensures.told c.take.ensures.left (ap Some c.unwrap_or-first.ensures)

pub returns-in-Message-clause-hears : goal.returns-in-Message-clause-hears
returns-in-Message-clause-hears c = λ pieces has.
    hears-last c.args.self.now c.args.self.now.body pieces (record { place = c.args.place; bytes = c.args.message.now }) has c.if-message-lt20.false c.in-Message.ensures.told c.take.ensures.given (ap Some c.unwrap_or-first.ensures)

pub returns-in-OutOfSequence-clause-hears : goal.returns-in-OutOfSequence-clause-hears
returns-in-OutOfSequence-clause-hears c = λ pieces has.
    hears-broken pieces (record { place = c.args.place; bytes = c.args.message.now }) has.run c.if-message-lt20.false c.take.result c.take.ensures.told c.in-OutOfSequence.is
