use Rattle.std.specs.Prelude.{IfOk}
use Rattle.std.proofs.Common.{◌≡◌, ◌≤◌, length, rules, subst}
use Rattle.std.proofs.lemmas.Result.{IfOk-weaker}
use Rattle.mbim_requests.specs.declared.MbimRequest.TheVariants.{ProxyConfiguration}
use Rattle.mbim_session.specs.Requests.{command_message}
use Rattle.rig_runs.specs.Rig.{device}
use Rattle.rig_play.proofs.Naming.{is_device}
use Rattle.rig_play.proofs.Short.{short_as, short_configuration}
use Rattle.rig_play.proofs.mbim.MbimClientsProtocol.first.Goals as goal

pub returns-clause-message : goal.returns-clause-message
returns-clause-message c =
    let path : c.unwrap-path.result ≡ device = is_device c.unwrap-path.result (search rules) in
    subst (λ path. IfOk c.command_message-message.result (λ message. message ≡ command_message (ProxyConfiguration path) 1)) path c.command_message-message.ensures

pub returns-clause-short : goal.returns-clause-short
returns-clause-short c =
    IfOk-weaker c.command_message-message.result (λ message. message ≡ command_message (ProxyConfiguration device) 1) (λ message. length message ≤ 16384) (λ message is. short_as message is short_configuration) (returns-clause-message c)
