use Rattle.std.proofs.Common.{◌≡◌, ◌≢◌, ◌<◌, ◌++◌, Bool, true, false, List, [], length, take, set, refl, ap, sym, ◌∙◌, subst, arith, add-one, append-nil}
use Rattle.std.specs.List.{AllByRecursion, remove}
use Rattle.kit_bytes.proofs.Lists.{all_remove}
use Rattle.many_history.specs.Many.{Place, Undecided, At, Seat, there, ended}
use Rattle.many_state.specs.Core.{is_there_in}
use Rattle.many_state.specs.Laws.{AreAll}
use Rattle.many_seats.specs.Seats.{Seating, IsSeat, IsPlaceOf, chosen_in}
use Rattle.many_seats.proofs.Names.{first_of}
use Rattle.many_core.proofs.Settling.{one_less, one_more, still_in_front, there_still, dropped_next, all_in_front, all_there, none_ended}
use Rattle.many_core.proofs.many.settle.Goals as goal

pub loop-place-init : goal.loop-place-init
loop-place-init c = record { places = c.requires; within = omega arith; front = tt; present = refl; gone = refl; names = refl; greatest = refl }

pub loop-place-smaller : goal.loop-place-smaller
loop-place-smaller c =
    let seats : List Seat = c.loop-place.seats.seats in
    let i = c.loop-place.place in
    let within : i < length seats = omega (arith, c.loop-place-test.true, c.present.ensures) in
    let found = first_of seats i within in
    let made = c.drop_at.ensures found.0 found.1 in
    omega (arith, within, ap (λ (t : Seating). length t.seats) made, one_less seats i within)

pub loop-place-preserved : goal.loop-place-preserved
loop-place-preserved c =
    let seats : List Seat = c.loop-place.seats.seats in
    let i = c.loop-place.place in
    let within : i < length seats = omega (arith, c.loop-place-test.true, c.present.ensures) in
    let found = first_of seats i within in
    let made = c.drop_at.ensures found.0 found.1 in
    let f = is_there_in c.args.cores.now in
    let gone : f (found.0).place ≡ false = sym (c.is_there.ensures found.0 found.1) ∙ c.if-is_there.false in
    record {
      places = subst (λ (t : Seating). AllByRecursion (λ seat. IsPlaceOf (length c.args.cores.now) seat.place) t.seats) (sym made) (all_remove (λ (seat : Seat). IsPlaceOf (length c.args.cores.now) seat.place) seats i c.loop-place.invariant.places);
      within = omega (arith, within, ap (λ (t : Seating). length t.seats) made, one_less seats i within);
      front = subst (λ (t : Seating). AreAll f (take i t.seats)) (sym made) (still_in_front f seats i c.loop-place.invariant.front);
      present = ap (λ (t : Seating). there f t.seats) made ∙ there_still f seats i found.0 within found.1 gone ∙ c.loop-place.invariant.present;
      gone = ap (λ (t : Seating). t.dropped ++ ended f t.seats) made ∙ dropped_next f c.loop-place.seats.dropped seats i found.0 within found.1 gone c.loop-place.invariant.front ∙ c.loop-place.invariant.gone;
      names = ap (λ (t : Seating). t.names) made ∙ c.loop-place.invariant.names;
      greatest = ap (λ (t : Seating). t.greatest) made ∙ c.loop-place.invariant.greatest;
    }

pub returns-clause-seats : goal.returns-clause-seats
returns-clause-seats c =
    let seats : List Seat = c.loop-place.seats.seats in
    let f = is_there_in c.args.cores.now in
    let all = all_in_front f seats c.loop-place.place (omega (arith, c.loop-place-test.false, c.present.ensures)) c.loop-place.invariant.front in
    sym (all_there f seats all) ∙ c.loop-place.invariant.present

pub returns-clause-dropped : goal.returns-clause-dropped
returns-clause-dropped c =
    let seats : List Seat = c.loop-place.seats.seats in
    let dropped : List Seat = c.loop-place.seats.dropped in
    let f = is_there_in c.args.cores.now in
    let all = all_in_front f seats c.loop-place.place (omega (arith, c.loop-place-test.false, c.present.ensures)) c.loop-place.invariant.front in
    sym (append-nil dropped) ∙ ap (λ (l : List Seat). dropped ++ l) (sym (none_ended f seats all)) ∙ c.loop-place.invariant.gone
