-- The errors that the proxy answers with.
-- Source: `QmiProtocolError` in libqmi's src/libqmi-glib/qmi-errors.h.
use Rattle.std.specs.Prelude.{ℕ}

abbrev pub no_error : ℕ
no_error = 0

abbrev pub malformed_message : ℕ
malformed_message = 1

abbrev pub share_passed : ℕ
share_passed = 2

abbrev pub internal : ℕ
internal = 3

abbrev pub aborted : ℕ
aborted = 4

abbrev pub client_ids_exhausted : ℕ
client_ids_exhausted = 5

abbrev pub invalid_client_id : ℕ
invalid_client_id = 7

abbrev pub device_in_use : ℕ
device_in_use = 23
