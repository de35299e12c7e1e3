use Rattle.std.proofs.Common.{refl}
use Rattle.sim_modem.proofs.Meeting.{met_none, met_more, met_answer}
use Rattle.sim_modem.proofs.laws.each_message_is_met.Goals as goal

pub returns : goal.returns
returns g c = record {
  begins = λ machine. met_none machine machine.fresh refl;
  goes_on = λ machine answering past message state has. record {
    sent = met_answer machine answering past message state has (machine.sends state message) refl;
    met = met_more machine answering past message state has (machine.next state message) refl;
  };
}
