use Rattle.std.proofs.Common.{refl}
use Rattle.trace_examples.proofs.ledgers.others_are_left_out.Goals as goal

pub returns : goal.returns
returns c = record {
  joined = λ c ledger. refl;
  left = λ c ledger. refl;
  lost = λ ledger. refl;
  back = λ ledger. refl;
  took = λ c count ledger. refl;
  modem_took = λ c ledger. refl;
  left_untold = λ c ledger. refl;
  lost_untold = λ ledger. refl;
  back_untold = λ ledger. refl;
  modem_took_untold = λ c ledger. refl;
}
