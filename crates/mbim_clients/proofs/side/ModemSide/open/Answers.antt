use Rattle.std.proofs.Common.{refl, ap}
use Rattle.proxy_history.specs.Modem.{now, is_away, to_modem, modem_taken_count}
use Rattle.proxy_history.specs.Requests.{last_number}
use Rattle.proxy_state.specs.Requests.{requests_in_use}
use Rattle.mbim_fragments.specs.Assembling.{Assembled}
use Rattle.mbim_proxy.specs.ModemStates.{state}
use Rattle.mbim_proxy.specs.Lists.{askers, last_list}
use Rattle.mbim_proxy.specs.Delivering.{begun_from}
use Rattle.mbim_clients.proofs.side.ModemSide.open.Goals as goal

pub returns : goal.returns
unfolding now is_away state requests_in_use last_number askers last_list to_modem modem_taken_count begun_from
returns c =
    let answer = ap (λ (begun : Assembled × Assembled). begun.0) c.in_ok-answer.ensures in
    let indication = ap (λ (begun : Assembled × Assembled). begun.1) c.in_ok-answer.ensures in
    rw (c.in_ok-device.ensures, c.in_ok-traffic.ensures, c.in_ok-last_list.ensures, c.none.ensures, answer, indication) refl
