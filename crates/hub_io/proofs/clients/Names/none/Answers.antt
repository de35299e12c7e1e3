use Rattle.std.proofs.Common.{ℕ, List, Option, Some, None, refl, ap}
use Rattle.hub_io.specs.Clients.{Clients}
use Rattle.hub_io.proofs.clients.Names.none.Goals as goal

pub returns : goal.returns
returns c =
    let with : List (Option ℕ) → Clients = λ by_place. record { greatest = 0; by_place = by_place } in
    ap with (c.in_ok-from_elem.ensures.items_if_clones_equal (elim [ None ↦ λ same. refl | Some name ↦ λ same. absurd same ]))
