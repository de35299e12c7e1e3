-- The limits of a profile's values.
use Rattle.std.specs.Prelude.{ℕ, ◌≤◌, ◌&&◌, nat_le, pos, negsuc, ◌≤ℤ◌, List, length, Bool}
use Rattle.std.specs.Char.{is_ascii}
use Rattle.std.specs.Char.Escape.{encode_utf16}
use Rattle.std.specs.List.{AllByRecursion, flat_map, list_all}
use Rattle.std.specs.Str.{IsAscii}
use Rattle.modem_profile.specs.declared.phonebook.PhonebookEntry.{PhonebookEntry}
use Rattle.modem_profile.specs.Profile.{Profile}

-- ---- texts ----

-- at most 100 characters, all of ASCII
abbrev pub is_short_ascii : List ℕ → Bool
is_short_ascii text = list_all is_ascii text && nat_le (length text) 100

pub record IsShortAscii (text : List ℕ) : Type 0 where
  pub ascii : IsAscii text
  pub short : length text ≤ 100

-- how many units characters have in UTF-16
abbrev pub utf16_length : List ℕ → ℕ
utf16_length text = length (flat_map encode_utf16 text)

-- a phone book takes texts of at most 100 units
abbrev pub is_phonebook_text : List ℕ → Bool
is_phonebook_text text = nat_le (utf16_length text) 100

abbrev pub IsPhonebookEntry : PhonebookEntry → Type 0
IsPhonebookEntry entry = (utf16_length entry.number ≤ 100) × (utf16_length entry.name ≤ 100)

-- ---- the whole profile ----

pub record IsWithin (profile : Profile) : Type 0 where
  pub manufacturer : IsShortAscii profile.manufacturer
  pub model : IsShortAscii profile.model
  pub revision : IsShortAscii profile.revision
  pub msisdn : IsShortAscii profile.msisdn
  pub imei : IsShortAscii profile.imei
  pub operator : IsShortAscii profile.operator
  pub mcc : profile.mcc ≤ 999
  pub mnc : profile.mnc ≤ 999
  pub signal : (negsuc 127 ≤ℤ profile.signal) × (profile.signal ≤ℤ pos 0)
  pub sms : AllByRecursion (λ pdu. length pdu ≤ 255) profile.sms
  pub sms_count : length profile.sms ≤ 100
  pub phonebook : AllByRecursion IsPhonebookEntry profile.phonebook
  pub phonebook_count : length profile.phonebook ≤ 100
