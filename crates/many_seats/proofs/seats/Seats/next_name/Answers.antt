use Rattle.std.proofs.Common.{◌≡◌, ℕ, ◌<◌, ◌≤◌, List, length, sym, subst, arith, None}
use Rattle.many_history.specs.Many.{Seat}
use Rattle.many_seats.specs.Seats.{Seating, chosen_in, undecided, IsSeat}
use Rattle.many_seats.proofs.Names.{next_is_within, first_of, somebody}
use Rattle.many_seats.proofs.seats.Seats.next_name.Goals as goal

pub overflow_add-result : goal.overflow_add-result
overflow_add-result c =
    let seats : List Seat = c.self.inside.present.items in
    let names : List ℕ = c.self.inside.names.items in
    let place : c.args.place < length seats = subst (λ (s : Seating). c.args.place < length s.seats) (sym c.self.view_is) c.requires.within in
    let device : c.args.device < length names = subst (λ (s : Seating). c.args.device < length s.names) (sym c.self.view_is) c.requires.device in
    let found = first_of seats c.args.place place in
    let none : chosen_in (found.0).place ≡ None = subst (λ (s : Seating). (k : Seat) → IsSeat k s.seats c.args.place → chosen_in k.place ≡ None) (sym c.self.view_is) c.requires.undecided found.0 found.1 in
    let undecided : 1 ≤ undecided seats = somebody seats c.args.place found.0 place found.1 none in
    omega (arith, c.self.invariant.fits, undecided, c.index.ensures, next_is_within names seats c.self.inside.greatest c.args.device c.index.result.now device c.self.invariant.names)
