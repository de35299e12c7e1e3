use Rattle.std.proofs.Common.{List, [], sym, subst}
use Rattle.proxy_history.specs.ClientIds.{Grant}
use Rattle.holders.specs.Calls.{TellTheSame}
use Rattle.holders.proofs.Sets.{same_none}
use Rattle.holders.proofs.holders.Holders.clear.Goals as goal

pub returns-clause-stands : goal.returns-clause-stands
returns-clause-stands c = λ calls. subst (λ (l : List Grant). TellTheSame [] l) (sym c.clear.ensures) same_none
