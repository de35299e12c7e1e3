use Rattle.std.proofs.Common.{ap, ◌∙◌}
use Rattle.proxy_history.specs.Requests.{last_number}
use Rattle.holders.specs.Kept.{Ids}
use Rattle.proxy_history.specs.Modem.{to_modem, modem_taken_count}
use Rattle.proxy_state.specs.Requests.{requests_in_use}
use Rattle.qmi_state.specs.Traffic.{Numbers, Traffic, ids, kept_ids}
use Rattle.qmi_core.proofs.traffic.Traffic.open.Goals as goal

pub returns : goal.returns
unfolding requests_in_use ids kept_ids last_number to_modem modem_taken_count
returns c =
    ap (λ (n : Numbers). let d : Traffic = record { control = n; services = c.in_ok-services.services; held = c.in_ok-holders.holders.held; kept = c.in_ok-holders.holders.kept; waiting = c.in_ok-outbox.outbox.bytes } in d) c.in_ok-control.ensures
    ∙ ap (λ (n : Numbers). let d : Traffic = record { control = _; services = n; held = c.in_ok-holders.holders.held; kept = c.in_ok-holders.holders.kept; waiting = c.in_ok-outbox.outbox.bytes } in d) c.in_ok-services.ensures
    ∙ ap (λ (h : Ids). let d : Traffic = record { control = _; services = _; held = h.held; kept = h.kept; waiting = c.in_ok-outbox.outbox.bytes } in d) c.in_ok-holders.ensures
    ∙ ap (λ q. let d : Traffic = record { control = _; services = _; held = _; kept = _; waiting = q.bytes } in d) c.in_ok-outbox.ensures
