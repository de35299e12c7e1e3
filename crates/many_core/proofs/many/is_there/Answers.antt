use Rattle.std.proofs.Common.{◌<◌, List, length, ap, sym, ◌∙◌, Option, Some}
use Rattle.qmi_state.specs.Core.{QmiCore}
use Rattle.many_history.specs.Many.{Place, Seat}
use Rattle.many_state.specs.Core.{has, is_there_in}
use Rattle.many_seats.proofs.Names.{first_of}
use Rattle.many_cores.proofs.Places.{some_at, got_at}
use Rattle.many_core.proofs.Inside.{of_chosen, device_fits}
use Rattle.many_core.proofs.many.is_there.Goals as goal

pub at-requires : goal.at-requires
at-requires c =
    let seats : List Seat = c.args.seats.now.seats in
    let found = first_of seats c.args.place c.requires.within in
    device_fits (length c.args.cores.now) seats c.args.place found.0 c.in-Some.chosen c.requires.within found.1 c.requires.places (sym (c.in-Some.ensures found.0 found.1))

pub returns-in-Some : goal.returns-in-Some
returns-in-Some c = λ seat at.
    let cores : List QmiCore = c.args.cores.now in
    let chosen = c.in-Some.chosen in
    let within : chosen.device < length cores = device_fits (length cores) c.args.seats.now.seats c.args.place seat chosen c.requires.within at c.requires.places (sym (c.in-Some.ensures seat at)) in
    let core = some_at cores chosen.device within in
    c.has.ensures
    ∙ ap (λ (k : QmiCore). has chosen.name (Some k)) (c.at.ensures core.0 core.1)
    ∙ ap (λ (o : Option QmiCore). has chosen.name o) (sym (got_at cores chosen.device core.0 within core.1))
    ∙ ap (λ (p : Place). is_there_in cores p) (sym (of_chosen seat.place chosen (sym (c.in-Some.ensures seat at))))
