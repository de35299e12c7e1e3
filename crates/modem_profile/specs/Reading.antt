-- Profiles in JSON: an object, each member of which may be missing, and others of which count for nothing.
use Rattle.std.specs.Prelude.{ℕ, List, Option, Some, None, Result, Ok, Err, if◌then◌else◌}
use Rattle.std.specs.Str.{is_utf8}
use Rattle.serde_json.specs.Data.{Data, Members}
use Rattle.serde_json.specs.Find.{as_object}
use Rattle.serde_json.specs.Read.{read}
use Rattle.modem_profile.specs.declared.fault.MemberName.{MemberName}
use Rattle.modem_profile.specs.declared.fault.MemberName.TheVariants.{Manufacturer, Model, Revision, Msisdn, Imei, Operator, Mcc, Mnc, Signal, Sms, Phonebook}
use Rattle.modem_profile.specs.declared.fault.ProfileFault.{ProfileFault}
use Rattle.modem_profile.specs.declared.fault.ProfileFault.TheVariants.{Json, Member}
use Rattle.modem_profile.specs.declared.parts.DeviceTexts.{DeviceTexts}
use Rattle.modem_profile.specs.declared.parts.NetworkTexts.{NetworkTexts}
use Rattle.modem_profile.specs.declared.parts.Numbers.{Numbers}
use Rattle.modem_profile.specs.Members.{value_in}
use Rattle.modem_profile.specs.Profile.{Profile, default_profile}
use Rattle.modem_profile.specs.Values.{ascii_text, network_code, signal_strength, pdus, phonebook_entries}

-- one member after another, up to the first that is faulty
infixl 10 ◌>>=◌
abbrev pub ◌>>=◌ : {A B : Type 0} → Result A MemberName → (A → Result B MemberName) → Result B MemberName
Ok a >>= next = next a
Err name >>= next = Err name

abbrev pub or_faulty : {A : Type 0} → MemberName → Option A → Result A MemberName
or_faulty name None = Err name
or_faulty name (Some a) = Ok a

abbrev pub given_or : {A : Type 0} → MemberName → (Data → Option A) → A → Option Data → Result A MemberName
given_or name read default None = Ok default
given_or name read default (Some value) = or_faulty name (read value)

-- what a member's value gives, or the default where the member is missing
unfoldable pub member_or : {A : Type 0} → MemberName → (Data → Option A) → A → Data → Result A MemberName
member_or name read default value = given_or name read default (value_in name value)

-- what an object says of the device, or the first of the members that has another value
unfoldable pub device_of : Data → Result DeviceTexts MemberName
device_of value = do
  manufacturer ← member_or Manufacturer ascii_text default_profile.manufacturer value
  model ← member_or Model ascii_text default_profile.model value
  revision ← member_or Revision ascii_text default_profile.revision value
  Ok (record { manufacturer = manufacturer; model = model; revision = revision })

-- of the subscriber and the network
unfoldable pub network_of : Data → Result NetworkTexts MemberName
network_of value = do
  msisdn ← member_or Msisdn ascii_text default_profile.msisdn value
  imei ← member_or Imei ascii_text default_profile.imei value
  operator ← member_or Operator ascii_text default_profile.operator value
  Ok (record { msisdn = msisdn; imei = imei; operator = operator })

-- and the numbers
unfoldable pub numbers_of : Data → Result Numbers MemberName
numbers_of value = do
  mcc ← member_or Mcc network_code default_profile.mcc value
  mnc ← member_or Mnc network_code default_profile.mnc value
  signal ← member_or Signal signal_strength default_profile.signal value
  Ok (record { mcc = mcc; mnc = mnc; signal = signal })

-- the profile of an object, or the first of the members, in this order, that has another value
unfoldable pub profile_of : Data → Result Profile MemberName
profile_of value = do
  device ← device_of value
  network ← network_of value
  numbers ← numbers_of value
  sms ← member_or Sms pdus default_profile.sms value
  phonebook ← member_or Phonebook phonebook_entries default_profile.phonebook value
  Ok (record {
    manufacturer = device.manufacturer;
    model = device.model;
    revision = device.revision;
    msisdn = network.msisdn;
    imei = network.imei;
    operator = network.operator;
    mcc = numbers.mcc;
    mnc = numbers.mnc;
    signal = numbers.signal;
    sms = sms;
    phonebook = phonebook;
  })

-- the JSON value that a text is, where it is one
unfoldable pub value_of : List ℕ → Option Data
value_of text = if is_utf8 text then read text else None

abbrev pub or_member : Result Profile MemberName → Result Profile ProfileFault
or_member (Ok profile) = Ok profile
or_member (Err name) = Err (Member name)

abbrev pub profile_at : Data → Option Members → Result Profile ProfileFault
profile_at value None = Err Json
profile_at value (Some inside) = or_member (profile_of value)

abbrev pub profile_read : Option Data → Result Profile ProfileFault
profile_read None = Err Json
profile_read (Some value) = profile_at value (as_object value)

-- the profile of a text, or that the text is no object, or the first of the members that has another value
unfoldable pub profile_in : List ℕ → Result Profile ProfileFault
profile_in text = profile_read (value_of text)
