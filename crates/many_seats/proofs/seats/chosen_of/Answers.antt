use Rattle.std.proofs.Common.{ap, sym, ◌∙◌}
use Rattle.many_seats.specs.Seats.{chosen_by}
use Rattle.many_seats.proofs.Placed.{place_is, none_is}
use Rattle.many_seats.proofs.seats.chosen_of.Goals as goal

pub returns-in-Some : goal.returns-in-Some
returns-in-Some c =
    c.chosen.ensures ∙ ap chosen_by (sym (place_is c.args.conn c.args.dropped.now c.in-Some.place (sym c.in-Some.is ∙ c.find_in.ensures.place) c.index-dropped-place.result c.index-dropped-place.is))

pub returns-in-None : goal.returns-in-None
returns-in-None c = ap chosen_by (sym (none_is c.args.conn c.args.dropped.now (sym c.in-None.is ∙ c.find_in.ensures.place)))
