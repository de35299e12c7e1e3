use Rattle.std.proofs.Common.{length, sym, ◌∙◌, subst, List}
use Rattle.kit_bytes.proofs.Lists.{all_filter}
use Rattle.many_history.specs.Many.{Seat}
use Rattle.many_state.specs.Core.{is_there_in}
use Rattle.many_seats.specs.Seats.{IsPlaceOf}
use Rattle.many_core.proofs.Inside.{PlacesFit}
use Rattle.many_core.proofs.many.ManyCore.settle.Goals as goal

pub invariant_of-self : goal.invariant_of-self
invariant_of-self c =
    let count = length c.self.inside.paths in
    record {
      some = c.self.invariant.some;
      count = c.self.invariant.count;
      names = c.settle.ensures.names ∙ c.self.invariant.names;
      places =
          subst (λ (l : List Seat). PlacesFit count l) (sym c.settle.ensures.seats)
          (all_filter (λ (seat : Seat). IsPlaceOf count seat.place) (λ (seat : Seat). is_there_in c.self.inside.cores seat.place) c.self.inside.seats.seats c.self.invariant.places);
    }
