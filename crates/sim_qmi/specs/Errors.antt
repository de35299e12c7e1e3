-- The errors with which a simulated modem refuses.
-- Source: the enum QmiProtocolError in libqmi's src/libqmi-glib/qmi-errors.h.
use Rattle.std.specs.Prelude.{ℕ}

abbrev pub client_ids_exhausted : ℕ
client_ids_exhausted = 5

abbrev pub invalid_client_id : ℕ
invalid_client_id = 7

abbrev pub missing_argument : ℕ
missing_argument = 17

abbrev pub invalid_command : ℕ
invalid_command = 71
