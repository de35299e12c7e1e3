use Rattle.std.proofs.Common.{ap}
use Rattle.slab.specs.Slab.{get, slab_len}
use Rattle.std.specs.Prelude.{count_by, is_some, List, Option}
use Rattle.number_space.specs.declared.chain.Link.{Link}
use Rattle.number_space.proofs.Links.{met_kept, none_linked}
use Rattle.number_space.proofs.chain.Chain.open.Goals as goal

pub invariant_of-result : goal.invariant_of-result
invariant_of-result g c =
    met_kept (get c.in_ok-with_capacity.field-0) (slab_len c.in_ok-with_capacity.field-0) _ _ _
    (none_linked (get c.in_ok-with_capacity.field-0) (slab_len c.in_ok-with_capacity.field-0) (ap (λ (slots : List (Option (Link g.row.V.Denot))). count_by is_some slots) c.in_ok-with_capacity.ensures.empty))
