use Rattle.serde_json.specs.View.{view}
use Rattle.modem_profile.specs.declared.fault.MemberName.TheVariants.{Sms, Phonebook}
use Rattle.modem_profile.proofs.Within.{pdus_in-within, entries_in-within}
use Rattle.modem_profile.proofs.read.profile_of.Goals as goal

pub invariant_of-result : goal.invariant_of-result
invariant_of-result c =
    let device = c.in_ok-device.ensures.limits in
    let network = c.in_ok-network.ensures.limits in
    let numbers = c.in_ok-numbers.ensures.limits in
    let sms = pdus_in-within Sms _ (view c.args.object.now) c.in_ok-sms.ensures in
    let phonebook = entries_in-within Phonebook _ (view c.args.object.now) c.in_ok-phonebook.ensures in
    record {
      manufacturer = device.manufacturer;
      model = device.model;
      revision = device.revision;
      msisdn = network.msisdn;
      imei = network.imei;
      operator = network.operator;
      mcc = numbers.mcc;
      mnc = numbers.mnc;
      signal = numbers.signal;
      sms = sms.0;
      sms_count = sms.1;
      phonebook = phonebook.0;
      phonebook_count = phonebook.1;
    }
