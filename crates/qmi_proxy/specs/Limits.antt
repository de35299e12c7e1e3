-- What a QMI proxy holds at most.
use Rattle.std.specs.Prelude.{ℕ}
use Rattle.proxy_history.specs.Limits.{Limits}
use Rattle.qmi_proxy.specs.Spaces.{limit_of, top_of}

abbrev pub connection_limit : ℕ
connection_limit = 64

-- requests of one client that wait in one space
abbrev pub share_limit : ℕ
share_limit = 16

-- bytes that wait for one client
abbrev pub outbox_limit : ℕ
outbox_limit = 262144

-- bytes that wait for the modem
abbrev pub modem_outbox_limit : ℕ
modem_outbox_limit = 1048576

abbrev pub qmi_limits : Limits
qmi_limits = record {
  connections = connection_limit;
  share = share_limit;
  outbox = outbox_limit;
  modem_outbox = modem_outbox_limit;
  in_use = limit_of;
  top = top_of;
}
