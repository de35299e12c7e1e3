use Rattle.std.proofs.Common.{refl, ap, sym, Some}
use Rattle.mbim_proxy.specs.OwnReplies as own
use Rattle.mbim_proxy.specs.OwnReplies.{reply_to_close}
use Rattle.mbim_state.specs.Core.{known_by}
use Rattle.mbim_clients.specs.declared.request.Request.TheVariants.{HostError, Close, Wrong}
use Rattle.mbim_clients.proofs.Heard.{heard_plain, heard_as}
use Rattle.mbim_clients.proofs.side.ModemSide.decide.Goals as goal

pub returns-in-HostError : goal.returns-in-HostError
returns-in-HostError c = heard_plain c.args.name c.args.message.now c.args.client.now c.args.self.now HostError (sym c.in-HostError.ensures) refl refl own.Silent refl

pub returns-in-Open : goal.returns-in-Open
returns-in-Open c = c.decide_opening.ensures

pub returns-in-Close : goal.returns-in-Close
returns-in-Close c =
    heard_as c.args.name c.args.message.now c.args.client.now c.args.self.now _ _ _ _ _ _
    (heard_plain c.args.name c.args.message.now c.args.client.now c.args.self.now Close (sym c.in-Close.ensures) refl refl (reply_to_close (known_by c.args.client.now)) refl)
    (ap Some c.close.ensures.reply) c.close.ensures.client refl

pub returns-in-Command : goal.returns-in-Command
returns-in-Command c = c.decide_command.ensures

pub returns-in-Wrong : goal.returns-in-Wrong
returns-in-Wrong c = heard_plain c.args.name c.args.message.now c.args.client.now c.args.self.now (Wrong c.in-Wrong.code) (sym c.in-Wrong.ensures) refl refl (own.Wrong c.in-Wrong.code) refl
