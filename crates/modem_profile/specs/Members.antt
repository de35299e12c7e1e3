-- The members of a profile's JSON object. Of members of one name the last counts, as JSON's reader says.
use Rattle.std.specs.Prelude.{ℕ, List, Option, codes}
use Rattle.serde_json.specs.Data.{Data}
use Rattle.serde_json.specs.Find.{get}
use Rattle.modem_profile.specs.declared.fault.MemberName.{MemberName}
use Rattle.modem_profile.specs.declared.fault.MemberName.TheVariants.{Manufacturer, Model, Revision, Msisdn, Imei, Operator, Mcc, Mnc, Signal, Sms, Phonebook}

-- the name of a member in JSON
unfoldable pub member_text : MemberName → List ℕ
member_text Manufacturer = codes "manufacturer"
member_text Model = codes "model"
member_text Revision = codes "revision"
member_text Msisdn = codes "msisdn"
member_text Imei = codes "imei"
member_text Operator = codes "operator"
member_text Mcc = codes "mcc"
member_text Mnc = codes "mnc"
member_text Signal = codes "signal"
member_text Sms = codes "sms"
member_text Phonebook = codes "phonebook"

abbrev pub value_in : MemberName → Data → Option Data
value_in name value = get (member_text name) value
