-- What the examples share: a proxy, its clients 1 and 2, and the messages that they and the modem send.
-- A story is told in its order; lists of events have the newest first.
use Rattle.std.specs.Prelude.{ℕ, zero, suc, false, None, List, [], ◌∷◌, ◌++◌, reverse, codes}
use Rattle.kit_bytes.specs.Hex.{hex}
use Rattle.proxy_history.specs.Events.{Event, Joined, Piece}
use Rattle.proxy_history.specs.Facts.{Fact}
use Rattle.qmi_proxy.specs.Setup.{Setup}
use Rattle.qmi_proxy.specs.History as proxy

abbrev pub setup : Setup
setup = record { device = codes "/dev/cdc-wdm0"; time_limit = 30000; starts_away = false; release = None }

-- ---- messages ----

-- Proxy Open of /dev/cdc-wdm0, and its success
abbrev pub open_device : List ℕ
open_device = hex (codes "01 1B 00 00 00 00 00 01 00 FF 10 00 01 0D 00 2F 64 65 76 2F 63 64 63 2D 77 64 6D 30")

abbrev pub opened : List ℕ
opened = hex (codes "01 12 00 80 00 00 01 01 00 FF 07 00 02 04 00 00 00 00 00")

-- Get Version Info with number 1, its answer, and the refusals of it that tell errors 3 and 4
abbrev pub get_version : List ℕ
get_version = hex (codes "01 0B 00 00 00 00 00 01 21 00 00 00")

abbrev pub version : List ℕ
version = hex (codes "01 1B 00 80 00 00 01 01 21 00 10 00 02 04 00 00 00 00 00 01 06 00 01 02 01 00 03 00")

abbrev pub version_internal : List ℕ
version_internal = hex (codes "01 12 00 80 00 00 01 01 21 00 07 00 02 04 00 01 00 03 00")

abbrev pub version_aborted : List ℕ
version_aborted = hex (codes "01 12 00 80 00 00 01 01 21 00 07 00 02 04 00 01 00 04 00")

-- Allocate CID for DMS with number 1 and as the modem sees the second of them
abbrev pub allocate : List ℕ
allocate = hex (codes "01 0F 00 00 00 00 00 01 22 00 04 00 01 01 00 02")

abbrev pub allocate_as_2 : List ℕ
allocate_as_2 = hex (codes "01 0F 00 00 00 00 00 02 22 00 04 00 01 01 00 02")

-- its answers with client ids 5 and 6, to numbers 1 and 2, and the refusal that tells error 5
abbrev pub id_5 : List ℕ
id_5 = hex (codes "01 17 00 80 00 00 01 01 22 00 0C 00 02 04 00 00 00 00 00 01 02 00 02 05")

abbrev pub id_6 : List ℕ
id_6 = hex (codes "01 17 00 80 00 00 01 01 22 00 0C 00 02 04 00 00 00 00 00 01 02 00 02 06")

abbrev pub id_5_to_2 : List ℕ
id_5_to_2 = hex (codes "01 17 00 80 00 00 01 02 22 00 0C 00 02 04 00 00 00 00 00 01 02 00 02 05")

abbrev pub id_6_to_2 : List ℕ
id_6_to_2 = hex (codes "01 17 00 80 00 00 01 02 22 00 0C 00 02 04 00 00 00 00 00 01 02 00 02 06")

abbrev pub no_id : List ℕ
no_id = hex (codes "01 12 00 80 00 00 01 01 22 00 07 00 02 04 00 01 00 05 00")

-- DMS Get Model of client id 5 with number 1, as the modem sees the second of them, the answers to both, and the refusal that tells error 7
abbrev pub get_model : List ℕ
get_model = hex (codes "01 0C 00 00 02 05 00 01 00 22 00 00 00")

abbrev pub get_model_as_2 : List ℕ
get_model_as_2 = hex (codes "01 0C 00 00 02 05 00 02 00 22 00 00 00")

abbrev pub model : List ℕ
model = hex (codes "01 1C 00 80 02 05 02 01 00 22 00 10 00 02 04 00 00 00 00 00 01 06 00 45 4D 37 34 35 35")

abbrev pub model_to_2 : List ℕ
model_to_2 = hex (codes "01 1C 00 80 02 05 02 02 00 22 00 10 00 02 04 00 00 00 00 00 01 06 00 45 4D 37 34 35 35")

abbrev pub model_refused : List ℕ
model_refused = hex (codes "01 13 00 80 02 05 02 01 00 22 00 07 00 02 04 00 01 00 07 00")

-- the Sync indication, and an indication of DMS to everybody
abbrev pub sync : List ℕ
sync = hex (codes "01 0B 00 80 00 00 02 00 27 00 00 00")

abbrev pub dms_indication : List ℕ
dms_indication = hex (codes "01 0C 00 80 02 FF 04 00 00 01 00 00 00")

-- ---- stories ----

-- what comes after both clients have opened the device
abbrev pub both_open : List Event → List Event
both_open story = reverse (Joined 1 ∷ Piece 1 open_device ∷ Joined 2 ∷ Piece 2 open_device ∷ story)

abbrev pub bytes_for : ℕ → List Event → List ℕ
bytes_for c events = (proxy.text_for setup c events).bytes

abbrev pub to_modem : List Event → List ℕ
to_modem events = proxy.to_modem setup events

abbrev pub history : List Event → List Fact
history events = proxy.history setup events

abbrev pub repeated : ℕ → List ℕ → List ℕ
repeated zero bytes = []
repeated (suc n) bytes = bytes ++ repeated n bytes
