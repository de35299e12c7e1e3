use Rattle.proxy_history.proofs.SoundLaws.{gone_view_stays, ends_are_last}
use Rattle.proxy_history.proofs.laws.views_of_gone_connections_stay.Goals as goal

pub returns : goal.returns
returns c = record {
  stay = λ limits blank conn why later earlier some sound none. gone_view_stays limits blank conn some why later earlier sound none;
  last = λ limits blank conn facts some sound. ends_are_last limits blank conn some facts sound;
}
