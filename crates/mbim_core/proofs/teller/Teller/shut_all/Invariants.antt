use Rattle.std.proofs.Common.{◌≡◌, true}
use Rattle.mbim_proxy.specs.Setup.{Setup}
use Rattle.mbim_core.proofs.Shut.{shut_to}
use Rattle.mbim_core.proofs.Subscribed.{subscribed_in}
use Rattle.mbim_core.proofs.teller.Teller.shut_all.Given as goal

-- those before this place are shut, and what each connection subscribes to is followed
abbrev pub invariant-loop-place : goal.invariant-loop-place
invariant-loop-place l = record {
  shut : (s : Setup) → l.connections ≡ shut_to s l.initial.connections l.place;
  follows : l.initial.self.subscriptions ≡ subscribed_in l.initial.connections.present → l.self.subscriptions ≡ subscribed_in l.connections.present;
  asked : l.self.asked ≡ true → (l.initial.self.asked ≡ true) × (l.self.subscriptions ≡ l.initial.self.subscriptions);
}
