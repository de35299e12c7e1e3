-- What holds of the proxy of a QMI rig.
use Rattle.std.proofs.Common.{◌≡◌, []}
use Rattle.qmi_proxy.specs.Proxy.{proxy_of}
use Rattle.qmi_proxy.specs.History.{qmi_protocol}
use Rattle.qmi_proxy.proofs.Walk.{Asks, orderly}
use Rattle.rig_runs.specs.Qmi.{setup}
use Rattle.rig_stage.specs.Stage.{KeepsTime}
use Rattle.rig_play.specs.Timing.{proxy_keeps_time, proxy_begins}

pub keeps_time : KeepsTime (proxy_of setup)
keeps_time = proxy_keeps_time (qmi_protocol setup) (λ past. 0) (Asks setup) (orderly setup)

pub begins : (proxy_of setup).time [] ≡ 0
begins = proxy_begins (qmi_protocol setup) (λ past. 0)
