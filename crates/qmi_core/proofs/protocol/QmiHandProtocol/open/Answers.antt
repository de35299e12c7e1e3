use Rattle.std.proofs.Common.{ℕ, false, List, ap, ◌∙◌}
use Rattle.std.specs.Str.{encode_utf8_all}
use Rattle.proxy_history.specs.Modem.{now, is_away}
use Rattle.qmi_state.specs.Core.{ModemSide}
use Rattle.qmi_state.specs.Traffic.{Traffic}
use Rattle.qmi_core.proofs.protocol.QmiHandProtocol.open.Goals as goal

pub returns-clause-beside : goal.returns-clause-beside
unfolding now is_away
returns-clause-beside c = λ path is.
    let limits = c.args.limits.now in
    let made : List ℕ → Traffic → ModemSide = λ device traffic. record { device = device; time_limit = limits.time; release = limits.release; time = 0; away = false; traffic = traffic } in
    ap (λ (device : List ℕ). made device c.in_ok-traffic.traffic) (c.in_ok-device.ensures ∙ c.as_bytes.ensures.value ∙ is) ∙ ap (made (encode_utf8_all path)) c.in_ok-traffic.ensures
