-- Laws of the answers.
use Rattle.std.specs.Prelude.{◌≡◌, ℕ, ◌^◌, ◌<◌, ◌≤◌, Bool, List, [], ◌∷◌, length, map, IsSome, IsTrue}
use Rattle.std.specs.List.{AllByRecursion}
use Rattle.std.specs.Str.{all_scalars}
use Rattle.kit_bytes.specs.Subscriptions.{Pair, by_service}
use Rattle.mbim_fragments.specs.Runs.{longest_body}
use Rattle.mbim_fields.specs.Value.{Value, number, octets}
use Rattle.mbim_fields.specs.Canon.{canon}
use Rattle.mbim_services.specs.Table as table
use Rattle.mbim_services.specs.Table.{Row}
use Rattle.mbim_services.specs.SubscribeLists.{IsPair, list_buffer, list_values}
use Rattle.modem_profile.specs.declared.phonebook.PhonebookEntry.{PhonebookEntry}
use Rattle.modem_profile.specs.Profile.{Profile}
use Rattle.modem_profile.specs.Limits.{IsWithin, IsPhonebookEntry}
use Rattle.sim_mbim.specs.Values.{zero, zeros}
use Rattle.sim_mbim.specs.Modem.{Modem}
use Rattle.sim_mbim.specs.BasicConnect as basic_connect
use Rattle.sim_mbim.specs.Sms as sms
use Rattle.sim_mbim.specs.Phonebook as phonebook

-- ---- encodings ----

-- values have an encoding in the layout of a command's answers
abbrev pub HasEncoding : Row → List Value → Type 0
HasEncoding row values = IsSome (canon row.done values)

-- a message under an index, and an entry
abbrev pub IsMessage : ℕ × List ℕ → Type 0
IsMessage m = (m.0 < 2 ^ 32) × (length m.1 ≤ 255)

abbrev pub IsEntry : ℕ × PhonebookEntry → Type 0
IsEntry e = (e.0 < 2 ^ 32) × IsPhonebookEntry e.1 × IsTrue (all_scalars (e.1).number) × IsTrue (all_scalars (e.1).name)

-- what each command is answered with has one, by the limits of a profile and of what commands say
pub record AnswersHaveEncodings : Type 0 where
  pub device_caps : (p : Profile) → IsWithin p → HasEncoding table.device_caps (basic_connect.device_caps p)
  pub subscriber_ready : (p : Profile) → IsWithin p → HasEncoding table.subscriber_ready (basic_connect.subscriber_ready p)
  pub radio_state : (m : Modem) → HasEncoding table.radio_state (basic_connect.radio_state m)
  pub pin : HasEncoding table.pin (zeros 3)
  pub home_provider : (p : Profile) → IsWithin p → HasEncoding table.home_provider (basic_connect.provider p)
  pub visible_providers : (p : Profile) → IsWithin p → HasEncoding table.visible_providers (basic_connect.providers p)
  pub register_state : (m : Modem) → HasEncoding table.register_state (basic_connect.register_state m)
  pub packet_service : (m : Modem) → HasEncoding table.packet_service (basic_connect.packet_service m)
  pub signal_state : HasEncoding table.signal_state basic_connect.signal_state
  pub connect : (session : ℕ) (m : Modem) → session < 2 ^ 32 → HasEncoding table.connect (basic_connect.connection session m)
  pub ip_configuration : (session : ℕ) → session < 2 ^ 32 → HasEncoding table.ip_configuration (basic_connect.ip_configuration session)
  pub device_services : HasEncoding table.device_services basic_connect.device_services
  pub subscribe_list : (list : List Pair) → AllByRecursion IsPair list → length (list_buffer list) < 2 ^ 32 → HasEncoding table.subscribe_list (list_values (by_service list))
  pub packet_statistics : HasEncoding table.packet_statistics (zeros 8)
  pub emergency_mode : HasEncoding table.emergency_mode (zeros 1)
  pub sms_configuration : HasEncoding table.sms_configuration sms.configuration
  pub sms_read : (kept : List (ℕ × List ℕ)) → length kept ≤ 100 → AllByRecursion IsMessage kept → HasEncoding table.sms_read (sms.list_of (map sms.message kept))
  pub sms_delete : HasEncoding table.sms_delete []
  pub sms_store_status : HasEncoding table.sms_store_status (zeros 2)
  pub ussd_exchange : (scheme : ℕ) (payload : List ℕ) → scheme < 2 ^ 32 → length payload ≤ longest_body → HasEncoding table.ussd_exchange (zero ∷ zero ∷ number scheme ∷ octets payload ∷ [])
  pub phonebook_configuration : HasEncoding table.phonebook_configuration (zeros 5)
  pub phonebook_read : (kept : List (ℕ × PhonebookEntry)) → length kept ≤ 100 → AllByRecursion IsEntry kept → HasEncoding table.phonebook_read (phonebook.list_of (map phonebook.entry kept))
  pub phonebook_delete : HasEncoding table.phonebook_delete []
  pub phonebook_write : HasEncoding table.phonebook_write []
