use Rattle.relays.proofs.QmiPrinted.{sessions_end_alike, tools_print_the_same, relays_may_come}
use Rattle.relays.proofs.qmi.qmi_tools_print_the_same.Goals as goal

pub returns : goal.returns
returns c = record {
  alike = sessions_end_alike;
  printed = tools_print_the_same;
  sound = relays_may_come;
}
