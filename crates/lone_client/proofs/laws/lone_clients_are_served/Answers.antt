use Rattle.lone_client.proofs.MbimServed.{lone_clients_are_served}
use Rattle.lone_client.proofs.laws.lone_clients_are_served.Goals as goal

pub returns : goal.returns
returns c = lone_clients_are_served
