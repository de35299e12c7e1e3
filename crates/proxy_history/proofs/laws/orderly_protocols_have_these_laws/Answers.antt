use Rattle.proxy_history.specs.History.{history}
use Rattle.proxy_history.specs.Orderly.{Anything}
use Rattle.proxy_history.proofs.Walk.{histories_are_sound, requests_are_asked, few_wait_for_modem, all_fit}
use Rattle.proxy_history.proofs.Folds.{others_change_nothing, bytes_grow, joining_starts_with_none, taking_takes, away_agrees, time_agrees}
use Rattle.proxy_history.proofs.laws.orderly_protocols_have_these_laws.Goals as goal

pub returns : goal.returns
returns c = λ start. record {
  sound = λ p O. histories_are_sound p Anything O;
  others = λ p O. others_change_nothing p Anything O;
  grow = λ p O. bytes_grow p Anything O;
  joining = λ p O. joining_starts_with_none p Anything O;
  taking = λ p O. taking_takes p Anything O;
  room = λ p O. all_fit p Anything O;
  few = λ p O events. few_wait_for_modem p Anything (history p events) (requests_are_asked p Anything O events);
  away = λ p O. away_agrees p Anything O;
  time = λ p O. time_agrees p Anything O;
}
