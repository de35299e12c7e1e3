-- Examples of requests to a modem and its messages, byte for byte. Lists of requests have the newest first.
use Rattle.std.specs.Prelude.{◌≡◌, ℕ, List, [], ◌∷◌, ◌++◌, codes}
use Rattle.kit_bytes.specs.Hex.{hex}
use Rattle.modem_profile.specs.Profile.{Profile, default_profile}
use Rattle.sim_modem.specs.Sim.{answers}
use Rattle.sim_qmi.specs.Modem.{machine}
use Rattle.sim_qmi.specs.Wds.{handle_after}

-- what the modem that says nothing of its own sends for a request behind these
abbrev pub sent : List (List ℕ) → List ℕ → List ℕ
sent past message = answers (machine default_profile) past message

-- ---- client ids ----

-- number 1: a client id of DMS
abbrev pub allocate_1 : List ℕ
allocate_1 = hex (codes "01 0F 00 00 00 00 00 01 22 00 04 00 01 01 00 02")

abbrev pub allocate_2 : List ℕ
allocate_2 = hex (codes "01 0F 00 00 00 00 00 02 22 00 04 00 01 01 00 02")

-- number 3: client id 1 of DMS is given back
abbrev pub release_3 : List ℕ
release_3 = hex (codes "01 10 00 00 00 00 00 03 23 00 05 00 01 02 00 02 01")

-- the ids 1 and 2 are given one after the other; the first is given again once it is given back, and can't be given back twice
pub record IdsAreGiven : Type 0 where
  pub first : sent [] allocate_1 ≡ hex (codes "01 17 00 80 00 00 01 01 22 00 0C 00 02 04 00 00 00 00 00 01 02 00 02 01")
  pub second : sent (allocate_1 ∷ []) allocate_2 ≡ hex (codes "01 17 00 80 00 00 01 02 22 00 0C 00 02 04 00 00 00 00 00 01 02 00 02 02")
  pub released : sent (allocate_2 ∷ allocate_1 ∷ []) release_3 ≡ hex (codes "01 17 00 80 00 00 01 03 23 00 0C 00 02 04 00 00 00 00 00 01 02 00 02 01")
  pub again : sent (release_3 ∷ allocate_2 ∷ allocate_1 ∷ []) release_3 ≡ hex (codes "01 12 00 80 00 00 01 03 23 00 07 00 02 04 00 01 00 07 00")
  pub free : sent (release_3 ∷ allocate_2 ∷ allocate_1 ∷ []) allocate_1 ≡ hex (codes "01 17 00 80 00 00 01 01 22 00 0C 00 02 04 00 00 00 00 00 01 02 00 02 01")

abbrev pub get_version_info : List ℕ
get_version_info = hex (codes "01 0B 00 00 00 00 00 01 21 00 00 00")

-- the services 0, 1, 2, 3 and 5, each in version 1.0
pub record VersionsAreTold : Type 0 where
  pub versions : sent [] get_version_info ≡ hex (codes "01 2F 00 80 00 00 01 01 21 00 24 00 02 04 00 00 00 00 00 01 1A 00 05 00 01 00 00 00 01 01 00 00 00 02 01 00 00 00 03 01 00 00 00 05 01 00 00 00")

-- ---- what is asked of the device ----

abbrev pub get_model : List ℕ
get_model = hex (codes "01 0C 00 00 02 01 00 05 00 22 00 00 00")

-- "Sim-1", with the request's service, client id, number and message id
pub record ModelIsTold : Type 0 where
  pub model : sent (allocate_1 ∷ []) get_model ≡ hex (codes "01 1B 00 80 02 01 02 05 00 22 00 0F 00 02 04 00 00 00 00 00 01 05 00 53 69 6D 2D 31")

-- ---- refusals ----

abbrev pub unknown_message : List ℕ
unknown_message = hex (codes "01 0C 00 00 02 01 00 06 00 99 00 00 00")

-- by a client id that isn't given
abbrev pub unknown_client : List ℕ
unknown_client = hex (codes "01 0C 00 00 02 09 00 06 00 99 00 00 00")

-- Set Operating Mode without its TLV 0x01, and with one of two bytes
abbrev pub no_mode : List ℕ
no_mode = hex (codes "01 0C 00 00 02 01 00 07 00 2E 00 00 00")

abbrev pub long_mode : List ℕ
long_mode = hex (codes "01 11 00 00 02 01 00 07 00 2E 00 05 00 01 02 00 00 00")

-- a client id that isn't given comes before an unknown message; a missing and an unreadable input are one error
pub record RequestsAreRefused : Type 0 where
  pub client : sent (allocate_1 ∷ []) unknown_client ≡ hex (codes "01 13 00 80 02 09 02 06 00 99 00 07 00 02 04 00 01 00 07 00")
  pub message : sent (allocate_1 ∷ []) unknown_message ≡ hex (codes "01 13 00 80 02 01 02 06 00 99 00 07 00 02 04 00 01 00 47 00")
  pub missing : sent (allocate_1 ∷ []) no_mode ≡ hex (codes "01 13 00 80 02 01 02 07 00 2E 00 07 00 02 04 00 01 00 11 00")
  pub unreadable : sent (allocate_1 ∷ []) long_mode ≡ hex (codes "01 13 00 80 02 01 02 07 00 2E 00 07 00 02 04 00 01 00 11 00")

-- the head says one byte of TLVs more than there are; a response
abbrev pub unframed : List ℕ
unframed = hex (codes "01 0C 00 00 02 01 00 05 00 22 00 01 00")

abbrev pub a_response : List ℕ
a_response = hex (codes "01 13 00 80 02 01 02 05 00 22 00 07 00 02 04 00 00 00 00 00")

pub record OthersBringNothing : Type 0 where
  pub unframed_brings : sent (allocate_1 ∷ []) unframed ≡ []
  pub response_brings : sent (allocate_1 ∷ []) a_response ≡ []

-- ---- the operating mode ----

-- number 8: offline
abbrev pub set_mode : List ℕ
set_mode = hex (codes "01 10 00 00 02 01 00 08 00 2E 00 04 00 01 01 00 03")

abbrev pub mode_is_set : List ℕ
mode_is_set = hex (codes "01 13 00 80 02 01 02 08 00 2E 00 07 00 02 04 00 00 00 00 00")

-- number 9: a client id of NAS
abbrev pub allocate_nas : List ℕ
allocate_nas = hex (codes "01 0F 00 00 00 00 00 09 22 00 04 00 01 01 00 03")

-- not registered, and the network 1, 1, "Example Net"
abbrev pub no_system : List ℕ
no_system = hex (codes "01 28 00 80 03 FF 04 00 00 24 00 1C 00 01 06 00 00 01 01 02 01 08 12 10 00 01 00 01 00 0B 45 78 61 6D 70 6C 65 20 4E 65 74")

abbrev pub get_mode : List ℕ
get_mode = hex (codes "01 0C 00 00 02 01 00 0A 00 2D 00 00 00")

-- the indication follows the response where an id of NAS is given, and else there is none
pub record ModeIsSet : Type 0 where
  pub quiet : sent (allocate_1 ∷ []) set_mode ≡ mode_is_set
  pub indicated : sent (allocate_nas ∷ allocate_1 ∷ []) set_mode ≡ mode_is_set ++ no_system
  pub kept : sent (set_mode ∷ allocate_1 ∷ []) get_mode ≡ hex (codes "01 17 00 80 02 01 02 0A 00 2D 00 0B 00 02 04 00 00 00 00 00 01 01 00 03")

-- ---- connections ----

abbrev pub allocate_wds : List ℕ
allocate_wds = hex (codes "01 0F 00 00 00 00 00 01 22 00 04 00 01 01 00 01")

abbrev pub start : List ℕ
start = hex (codes "01 0C 00 00 01 01 00 01 00 20 00 00 00")

abbrev pub stop_1 : List ℕ
stop_1 = hex (codes "01 13 00 00 01 01 00 03 00 21 00 07 00 01 04 00 01 00 00 00")

abbrev pub stop_2 : List ℕ
stop_2 = hex (codes "01 13 00 00 01 01 00 04 00 21 00 07 00 01 04 00 02 00 00 00")

abbrev pub get_status : List ℕ
get_status = hex (codes "01 0C 00 00 01 01 00 05 00 22 00 00 00")

abbrev pub started_twice : List (List ℕ)
started_twice = start ∷ start ∷ allocate_wds ∷ []

-- a second start has the next handle, which alone stops the network, and does so once
pub record NetworksStartAndStop : Type 0 where
  pub first : sent (allocate_wds ∷ []) start ≡ hex (codes "01 1A 00 80 01 01 02 01 00 20 00 0E 00 02 04 00 00 00 00 00 01 04 00 01 00 00 00")
  pub second : sent (start ∷ allocate_wds ∷ []) start ≡ hex (codes "01 1A 00 80 01 01 02 01 00 20 00 0E 00 02 04 00 00 00 00 00 01 04 00 02 00 00 00")
  pub old_handle : sent started_twice stop_1 ≡ hex (codes "01 13 00 80 01 01 02 03 00 21 00 07 00 02 04 00 01 00 07 00")
  pub last_handle : sent started_twice stop_2 ≡ hex (codes "01 13 00 80 01 01 02 04 00 21 00 07 00 02 04 00 00 00 00 00")
  pub stopped : sent (stop_2 ∷ started_twice) stop_2 ≡ hex (codes "01 13 00 80 01 01 02 04 00 21 00 07 00 02 04 00 01 00 07 00")
  pub connected : sent (stop_1 ∷ started_twice) get_status ≡ hex (codes "01 17 00 80 01 01 02 05 00 22 00 0B 00 02 04 00 00 00 00 00 01 01 00 02")
  pub disconnected : sent (stop_2 ∷ started_twice) get_status ≡ hex (codes "01 17 00 80 01 01 02 05 00 22 00 0B 00 02 04 00 00 00 00 00 01 01 00 01")
  pub cyclic : handle_after 4294967295 ≡ 1

-- ---- short messages ----

-- three messages are stored
abbrev pub with_messages : Profile
with_messages = record default_profile { sms = (0xA1 ∷ []) ∷ (0xB1 ∷ 0xB2 ∷ []) ∷ (0xC1 ∷ []) ∷ [] }

abbrev pub sent_with : List (List ℕ) → List ℕ → List ℕ
sent_with past message = answers (machine with_messages) past message

abbrev pub allocate_wms : List ℕ
allocate_wms = hex (codes "01 0F 00 00 00 00 00 01 22 00 04 00 01 01 00 05")

abbrev pub list_messages : List ℕ
list_messages = hex (codes "01 10 00 00 05 01 00 01 00 31 00 04 00 01 01 00 00")

-- number 2: the message with index 1 is deleted
abbrev pub delete_1 : List ℕ
delete_1 = hex (codes "01 17 00 00 05 01 00 02 00 24 00 0B 00 01 01 00 00 10 04 00 01 00 00 00")

-- no index is named
abbrev pub delete_none : List ℕ
delete_none = hex (codes "01 10 00 00 05 01 00 02 00 24 00 04 00 01 01 00 00")

abbrev pub read_1 : List ℕ
read_1 = hex (codes "01 14 00 00 05 01 00 03 00 22 00 08 00 01 05 00 00 01 00 00 00")

abbrev pub read_2 : List ℕ
read_2 = hex (codes "01 14 00 00 05 01 00 03 00 22 00 08 00 01 05 00 00 02 00 00 00")

abbrev pub delete_refused : List ℕ
delete_refused = hex (codes "01 13 00 80 05 01 02 02 00 24 00 07 00 02 04 00 01 00 07 00")

-- a message is deleted once, and the others keep their indexes
pub record MessagesKeepTheirIndexes : Type 0 where
  pub listed : sent_with (allocate_wms ∷ []) list_messages ≡ hex (codes "01 29 00 80 05 01 02 01 00 31 00 1D 00 02 04 00 00 00 00 00 01 13 00 03 00 00 00 00 00 00 00 00 01 00 00 00 00 02 00 00 00 00")
  pub deleted : sent_with (allocate_wms ∷ []) delete_1 ≡ hex (codes "01 13 00 80 05 01 02 02 00 24 00 07 00 02 04 00 00 00 00 00")
  pub left : sent_with (delete_1 ∷ allocate_wms ∷ []) list_messages ≡ hex (codes "01 24 00 80 05 01 02 01 00 31 00 18 00 02 04 00 00 00 00 00 01 0E 00 02 00 00 00 00 00 00 00 00 02 00 00 00 00")
  pub third : sent_with (delete_1 ∷ allocate_wms ∷ []) read_2 ≡ hex (codes "01 1B 00 80 05 01 02 03 00 22 00 0F 00 02 04 00 00 00 00 00 01 05 00 00 06 01 00 C1")
  pub gone : sent_with (delete_1 ∷ allocate_wms ∷ []) read_1 ≡ hex (codes "01 13 00 80 05 01 02 03 00 22 00 07 00 02 04 00 01 00 07 00")
  pub again : sent_with (delete_1 ∷ allocate_wms ∷ []) delete_1 ≡ delete_refused
  pub no_index : sent_with (allocate_wms ∷ []) delete_none ≡ delete_refused

-- a message of one byte in the format 6
abbrev pub send : List ℕ
send = hex (codes "01 13 00 00 05 01 00 04 00 20 00 07 00 01 04 00 06 01 00 11")

-- each has the next number, and isn't kept
pub record SendingCounts : Type 0 where
  pub first : sent (allocate_wms ∷ []) send ≡ hex (codes "01 18 00 80 05 01 02 04 00 20 00 0C 00 02 04 00 00 00 00 00 01 02 00 01 00")
  pub second : sent (send ∷ allocate_wms ∷ []) send ≡ hex (codes "01 18 00 80 05 01 02 04 00 20 00 0C 00 02 04 00 00 00 00 00 01 02 00 02 00")
  pub kept_none : sent (send ∷ allocate_wms ∷ []) list_messages ≡ hex (codes "01 1A 00 80 05 01 02 01 00 31 00 0E 00 02 04 00 00 00 00 00 01 04 00 00 00 00 00")
