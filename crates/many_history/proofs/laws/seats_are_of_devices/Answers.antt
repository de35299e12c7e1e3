use Rattle.many_history.proofs.Places.{seats_are_of_devices}
use Rattle.many_history.proofs.laws.seats_are_of_devices.Goals as goal

pub returns : goal.returns
returns c = λ start. seats_are_of_devices
