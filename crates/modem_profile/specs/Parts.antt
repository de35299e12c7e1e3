-- The parts of a profile: their defaults and their limits.
use Rattle.std.specs.Prelude.{◌≤◌, pos, negsuc, ◌≤ℤ◌}
use Rattle.modem_profile.specs.declared.parts.DeviceTexts.{DeviceTexts}
use Rattle.modem_profile.specs.declared.parts.NetworkTexts.{NetworkTexts}
use Rattle.modem_profile.specs.declared.parts.Numbers.{Numbers}
use Rattle.modem_profile.specs.Limits.{IsShortAscii}
use Rattle.modem_profile.specs.Profile.{default_profile}

-- what the profile that says nothing says of the device
abbrev pub default_device : DeviceTexts
default_device = record { manufacturer = default_profile.manufacturer; model = default_profile.model; revision = default_profile.revision }

-- and of the subscriber and the network
abbrev pub default_network : NetworkTexts
default_network = record { msisdn = default_profile.msisdn; imei = default_profile.imei; operator = default_profile.operator }

pub record IsDeviceWithin (texts : DeviceTexts) : Type 0 where
  pub manufacturer : IsShortAscii texts.manufacturer
  pub model : IsShortAscii texts.model
  pub revision : IsShortAscii texts.revision

pub record IsNetworkWithin (texts : NetworkTexts) : Type 0 where
  pub msisdn : IsShortAscii texts.msisdn
  pub imei : IsShortAscii texts.imei
  pub operator : IsShortAscii texts.operator

pub record AreInRange (numbers : Numbers) : Type 0 where
  pub mcc : numbers.mcc ≤ 999
  pub mnc : numbers.mnc ≤ 999
  pub signal : (negsuc 127 ≤ℤ numbers.signal) × (numbers.signal ≤ℤ pos 0)
