use Rattle.std.proofs.Common.{◌∙◌, sym}
use Rattle.std.proofs.lemmas.Bool.{eq-eqb}
use Rattle.many_seats.proofs.Order.{found_in_order}
use Rattle.many_seats.proofs.seats.likely_index.Goals as goal

pub returns-then-conn-clause-place : goal.returns-then-conn-clause-place
returns-then-conn-clause-place c =
    let seat = c.index-present-place.result in
    found_in_order c.args.conn c.args.present.now c.requires _ seat c.if-place-present.true c.index-present-place.is (eq-eqb seat.conn c.args.conn (sym c.conn-then-place-present.ensures ∙ c.if-conn.true))
