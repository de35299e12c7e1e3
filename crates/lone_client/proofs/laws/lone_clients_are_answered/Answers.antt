use Rattle.lone_client.proofs.QmiServed.{lone_clients_are_answered}
use Rattle.lone_client.proofs.laws.lone_clients_are_answered.Goals as goal

pub returns : goal.returns
returns c = lone_clients_are_answered
