use Rattle.relays.proofs.TunnelSessions.{sessions_end_alike}
use Rattle.relays.proofs.TunnelPrinted.{tools_print_the_same}
use Rattle.relays.proofs.carried.carried_tools_print_the_same.Goals as goal

pub returns : goal.returns
returns c = record {
  alike = sessions_end_alike;
  printed = tools_print_the_same;
}
