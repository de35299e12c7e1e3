use Rattle.std.proofs.Common.{ap}
use Rattle.slab.specs.Slab.{get, slab_len}
use Rattle.std.specs.Prelude.{count_by, is_some, List, Option}
use Rattle.number_space.specs.declared.chain.Link.{Link}
use Rattle.number_space.proofs.Links.{met_kept, none_linked}
use Rattle.number_space.proofs.chain.Chain.clear.Goals as goal

pub invariant_of-self : goal.invariant_of-self
invariant_of-self g c =
    met_kept (get c.clear.new.self) (slab_len c.clear.new.self) _ _ _
    (none_linked (get c.clear.new.self) (slab_len c.clear.new.self) (ap (λ (slots : List (Option (Link g.row.V.Denot))). count_by is_some slots) c.clear.ensures.empty))
