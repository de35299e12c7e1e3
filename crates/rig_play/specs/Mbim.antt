-- What holds of the proxy of an MBIM rig.
use Rattle.std.proofs.Common.{◌≡◌, false, [], None, refl, ap}
use Rattle.std.specs.Str.{chars}
use Rattle.kit_bytes.specs.declared.kind.Kind.TheVariants.{Mbim}
use Rattle.mbim_proxy.specs.Setup.{mbim_setup}
use Rattle.mbim_proxy.specs.Proxy.{own_bytes, proxy_of}
use Rattle.mbim_proxy.specs.History.{mbim_protocol}
use Rattle.mbim_proxy.proofs.Walk.{Asks, orderly}
use Rattle.core_bench.specs.Runs.{proxy_for}
use Rattle.rig_runs.specs.Mbim.{setup}
use Rattle.rig_runs.specs.Rig.{device, time_limit}
use Rattle.rig_stage.specs.Stage.{KeepsTime}
use Rattle.rig_play.specs.Timing.{proxy_keeps_time, proxy_begins}

pub keeps_time : KeepsTime (proxy_of setup)
keeps_time = proxy_keeps_time (mbim_protocol setup) (own_bytes setup) (Asks setup) (orderly setup)

pub begins : (proxy_of setup).time [] ≡ 0
begins = proxy_begins (mbim_protocol setup) (own_bytes setup)

-- the characters of the device's path are its bytes
device_has : chars device ≡ device
unfolding chars
device_has = refl

-- it is the one that is opened for the device
pub opens : proxy_for Mbim (record { time = time_limit; release = None }) device ≡ proxy_of setup
opens = ap (λ path. proxy_of (mbim_setup path time_limit false)) device_has
