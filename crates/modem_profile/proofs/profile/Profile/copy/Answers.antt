use Rattle.std.proofs.Common.{◌≡◌, ◌∙◌}
use Rattle.modem_profile.proofs.profile.Profile.copy.Goals as goal

pub returns-clause-same : goal.returns-clause-same
returns-clause-same c =
    let device : c.in_ok-device.device ≡ c.self.inside.device = c.in_ok-device.ensures in
    let network : c.in_ok-network.network ≡ c.self.inside.network = c.in_ok-network.ensures in
    let sms : c.in_ok-sms.sms.items ≡ c.self.inside.sms.items = c.in_ok-sms.ensures ∙ c.deref.ensures.value in
    let phonebook : c.in_ok-phonebook.phonebook.items ≡ c.self.inside.phonebook.items = c.in_ok-phonebook.ensures ∙ c.deref-2.ensures.value in
    rw (device, network, sms, phonebook) c.self.view_is

pub returns-clause-limits : goal.returns-clause-limits
returns-clause-limits c = rw (← c.self.view_is) c.self.invariant

pub invariant_of-result : goal.invariant_of-result
invariant_of-result c = rw (returns-clause-same c) (returns-clause-limits c)
