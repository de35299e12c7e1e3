-- A core of the MBIM proxy keeps what its history says, whatever it meets.
use Rattle.proxy_history.proofs.Folds.{away_agrees}
use Rattle.proxy_history.proofs.Walk.{all_fit}
use Rattle.proxy_state.specs.Faithful.{IsFaithful}
use Rattle.mbim_proxy.specs.Setup.{Setup}
use Rattle.mbim_proxy.specs.History.{mbim_protocol}
use Rattle.mbim_proxy.proofs.Walk.{Asks, orderly}
use Rattle.mbim_state.specs.Core.{kept_of, HasNumbers}
use Rattle.mbim_state.specs.Transitions.{mbim_handlers}
use Rattle.mbim_state.proofs.Regular.{Regular, histories_are_regular}
use Rattle.mbim_state.proofs.Keeping.{follows_connections, kept_returned, kept_modem_taken}
use Rattle.mbim_state.proofs.Hearing.{keeps_heard}
use Rattle.mbim_state.proofs.Finishing.{keeps_finished}
use Rattle.mbim_state.proofs.Modem.{delivers, kept_message, kept_lost, kept_ticked}

-- a core keeps what its history says, where its proxy has numbers
pub is_faithful : (s : Setup) → HasNumbers s → IsFaithful (mbim_protocol s) (kept_of s) (mbim_handlers s) (Regular s)
is_faithful s within = record {
  connections = follows_connections s;
  away_agrees = away_agrees (mbim_protocol s) (Asks s) (orderly s);
  fits = all_fit (mbim_protocol s) (Asks s) (orderly s);
  delivers = delivers s;
  fine = histories_are_regular s;
  hear_client = λ c m streams past x there K. keeps_heard s streams c m past x there K;
  hear_modem = kept_message s within;
  lose = kept_lost s within;
  regain = λ streams past x none K. kept_returned s streams past x K;
  take_modem = λ count streams past x some K. kept_modem_taken s streams past x count some K;
  tick = λ time streams past x K. kept_ticked s within streams time past x K;
  finish = keeps_finished s;
}
