use Rattle.std.specs.Prelude.{IfOk}
use Rattle.std.proofs.Common.{◌≡◌, rules, subst}
use Rattle.qmi_requests.specs.declared.QmiRequest.TheVariants.{ProxyOpen}
use Rattle.rig_runs.specs.Qmi.{device, says}
use Rattle.rig_play.proofs.Naming.{is_device}
use Rattle.rig_play.proofs.qmi.QmiClientsProtocol.first.Goals as goal

pub returns-clause-message : goal.returns-clause-message
returns-clause-message c =
    let path : c.unwrap-path.result ≡ device = is_device c.unwrap-path.result (search rules) in
    subst (λ path. IfOk c.write-message.result (λ message. message ≡ says (ProxyOpen path) 0 1)) path c.write-message.ensures.message
