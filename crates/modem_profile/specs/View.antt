-- What a profile stands for, without the memory that it takes.
use Rattle.modem_profile.specs.declared.profile.Profile.TheInside.{Inside}
use Rattle.modem_profile.specs.Profile.{Profile}

abbrev pub profile_view : Inside → Profile
profile_view profile = record {
  manufacturer = profile.device.manufacturer;
  model = profile.device.model;
  revision = profile.device.revision;
  msisdn = profile.network.msisdn;
  imei = profile.network.imei;
  operator = profile.network.operator;
  mcc = profile.numbers.mcc;
  mnc = profile.numbers.mnc;
  signal = profile.numbers.signal;
  sms = profile.sms.items;
  phonebook = profile.phonebook.items;
}
