-- What a simulated modem tells of itself and of the network that it is in.
use Rattle.std.specs.Prelude.{ℕ, ℤ, negsuc, List, [], codes}
use Rattle.modem_profile.specs.declared.phonebook.PhonebookEntry.{PhonebookEntry}

-- texts are lists of characters; mcc and mnc are the network's country and network codes, the signal is in dBm, and sms are
-- messages, each a list of bytes
pub record Profile : Type 0 where
  pub manufacturer : List ℕ
  pub model : List ℕ
  pub revision : List ℕ
  pub msisdn : List ℕ
  pub imei : List ℕ
  pub operator : List ℕ
  pub mcc : ℕ
  pub mnc : ℕ
  pub signal : ℤ
  pub sms : List (List ℕ)
  pub phonebook : List PhonebookEntry

-- the profile that says nothing
abbrev pub default_profile : Profile
default_profile = record {
  manufacturer = codes "Example";
  model = codes "Sim-1";
  revision = codes "1.0";
  msisdn = codes "100";
  imei = codes "000000000000000";
  operator = codes "Example Net";
  mcc = 1;
  mnc = 1;
  signal = negsuc 69;
  sms = [];
  phonebook = [];
}
