use Rattle.proxy_history.specs.Orderly.{Anything}
use Rattle.many_state.proofs.Room.{has_room}
use Rattle.many_state.proofs.laws.each_device_has_room.Goals as goal

pub returns : goal.returns
returns c = λ start. λ s k O wide events x c bytes d stands of at. has_room s k (λ d. Anything) O wide events x c bytes d stands of at
