use Rattle.std.proofs.Common.{◌∙◌, sym, ap, rules}
use Rattle.qmux_frame.specs.declared.head.Head.{Head}
use Rattle.qmux_frame.specs.Reply.{reply_of}
use Rattle.qmux_frame.proofs.Replies.{reply_of-head_of}
use Rattle.qmux_frame.proofs.reply.result_reply.Goals as goal

pub returns-clause-bytes : goal.returns-clause-bytes
unfolding reply_of
returns-clause-bytes c = search rules

pub returns-clause-answers : goal.returns-clause-answers
returns-clause-answers c = λ message are is. returns-clause-bytes c ∙ ap (λ (h : Head). reply_of h c.args.error) (sym is) ∙ reply_of-head_of message c.args.error are
