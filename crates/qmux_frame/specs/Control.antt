-- The messages of service 0 (CTL) that a proxy knows, by their ids.
-- Source: the messages of these names in libqmi's data/qmi-service-ctl.json.
use Rattle.std.specs.Prelude.{ℕ, Bool, ◌==◌, ◌&&◌, List}
use Rattle.qmux_frame.specs.Head.{is_control, message_id_of}

abbrev pub get_version_info : ℕ
get_version_info = 0x0021

abbrev pub allocate : ℕ
allocate = 0x0022

abbrev pub release : ℕ
release = 0x0023

abbrev pub sync : ℕ
sync = 0x0027

abbrev pub proxy_open : ℕ
proxy_open = 0xFF00

abbrev pub is_command : ℕ → List ℕ → Bool
is_command id message = is_control message && message_id_of message == id

-- Allocate CID asks for a client id of the service in TLV 0x01
abbrev pub is_allocate : List ℕ → Bool
is_allocate message = is_command allocate message

-- Release CID gives back the client id in TLV 0x01: the service, then the id
abbrev pub is_release : List ℕ → Bool
is_release message = is_command release message

-- Sync asks the modem to begin anew; as an indication it says that the modem did
abbrev pub is_sync : List ℕ → Bool
is_sync message = is_command sync message

-- Internal Proxy Open names in TLV 0x01 the device that the client wants; it is for the proxy and never reaches the modem
abbrev pub is_proxy_open : List ℕ → Bool
is_proxy_open message = is_command proxy_open message
