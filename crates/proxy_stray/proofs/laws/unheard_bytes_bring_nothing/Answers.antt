use Rattle.proxy_stray.proofs.Pieces.{unheard_bring_nothing, unheard_hang_up_nobody}
use Rattle.proxy_stray.proofs.laws.unheard_bytes_bring_nothing.Goals as goal

pub returns-clause-so_far : goal.returns-clause-so_far
returns-clause-so_far g c = λ p T events steps unheard. unheard_bring_nothing p T events steps unheard

pub returns-clause-hung_up : goal.returns-clause-hung_up
returns-clause-hung_up g c = λ p T events steps event unheard. unheard_hang_up_nobody p T events steps event unheard
