-- Messages of the modem beside the requests that they answer: the requests are the clients' commands.
use Rattle.std.proofs.Common.{◌≡◌, ℕ, false, List, [], ◌∷◌}
use Rattle.std.specs.List.{AllByRecursion}
use Rattle.proxy_history.specs.Facts.{Request}
use Rattle.mbim_proxy.specs.ModemStates.{is_own_open}
use Rattle.rig_laws.proofs.Pairs.{Pairs}
use Rattle.rig_laws_mbim.proofs.Hears.{Suits}

pub all_are_commands : (messages : List (List ℕ)) (requests : List Request) → Pairs Suits messages requests → AllByRecursion (λ r. is_own_open r ≡ false) requests
all_are_commands [] [] pairs = tt
all_are_commands [] (r ∷ requests) pairs = absurd pairs
all_are_commands (m ∷ messages) [] pairs = absurd pairs
all_are_commands (m ∷ messages) (r ∷ requests) pairs = (pairs.0.command, all_are_commands messages requests pairs.1)
