use Rattle.std.proofs.Common.{◌≡◌, ◌<◌, List, length, map, ℕ, Option, Some, ap, sym, ◌∙◌, arith}
use Rattle.std.specs.Option.{option_map}
use Rattle.std.proofs.lemmas.List.{length-map}
use Rattle.std.proofs.lemmas.Option.{slice_get-map}
use Rattle.many_history.specs.Many.{Seat}
use Rattle.many_seats.proofs.Names.{first_of}
use Rattle.many_cores.proofs.Places.{got_at}
use Rattle.many_served.proofs.served.ServedCoreManyProxyCore.conn_at.Goals as goal

pub returns : goal.returns
returns c =
    let seats : List Seat = c.args.self.now.core.core.seats in
    let within : c.args.index < length seats = omega (arith, c.requires, length-map seats (λ seat. seat.conn)) in
    let found = first_of seats c.args.index within in
    slice_get-map (λ (seat : Seat). seat.conn) seats c.args.index
    ∙ ap (option_map (λ (seat : Seat). seat.conn)) (got_at seats c.args.index found.0 within found.1)
    ∙ ap (λ (n : ℕ). Some n) (sym (c.conn_at.ensures found.0 found.1))
