-- One that is there, at a place in the order of joining.
use Rattle.std.proofs.Common.{◌≡◌, ℕ, ◌<◌, ◌==◌, List, [], length, position, ap, sym, ◌∙◌, subst, Some, None}
use Rattle.std.specs.List.{remove}
use Rattle.proxy_history.specs.Events as one
use Rattle.qmi_state.specs.Transitions.{qmi_handlers}
use Rattle.many_history.specs.Events.{Piece, Left, Took}
use Rattle.many_history.specs.Many.{Seat, At, place_of}
use Rattle.many_state.specs.Core.{queue_at}
use Rattle.many_seats.specs.declared.chosen.Chosen.{Chosen}
use Rattle.many_seats.specs.Seats.{IsSeat, chosen_in, said_in}
use Rattle.many_seats.proofs.Placed.{none_is, place_is}
use Rattle.many_seats.proofs.Names.{first_of}
use Rattle.many_cores.specs.Cores.{met, at_place, HasNoFewer}
use Rattle.many_core.specs.Core.{ManyCore, MovesNobody, with_cores}
use Rattle.many_core.specs.Core as many
use Rattle.many_core.proofs.Inside.{PlacesFit, of_chosen, of_none, device_fits}
use Rattle.many_core.proofs.Meeting.{seating_of}
use Rattle.many_core.proofs.Moving.{strange_piece_is, strange_piece_moves, strange_taking_is, strange_taking_moves, strange_leaving_is, strange_leaving_moves, piece_is, piece_moves, taking_is, taking_moves, idle_taking_is, idle_taking_moves, leaving_is, early_leaving_is}

-- whoever has chosen is at a device that there is
pub its_device : (x : ManyCore) → length x.core.cores ≡ length x.paths → PlacesFit (length x.paths) x.core.seats → (i : ℕ) → i < length x.core.seats → (chosen : Chosen)
    → ((seat : Seat) → IsSeat seat x.core.seats i → chosen_in seat.place ≡ Some chosen) → chosen.device < length x.core.cores
its_device x count fit i within chosen chose =
    let found = first_of x.core.seats i within in
    subst (λ (n : ℕ). chosen.device < n) (sym count) (device_fits (length x.paths) x.core.seats i found.0 chosen within found.1 fit (chose found.0 found.1))

-- it isn't there any more
abbrev pub without_place : ℕ → ManyCore → ManyCore
without_place i x = record x { core = record x.core { seats = remove x.core.seats i } }

module _ (x : ManyCore) (hung_up : x.core.dropped ≡ []) (conn : ℕ) where
  -- ---- nobody has the name ----

  module _ (is : None ≡ position (λ (seat : Seat). seat.conn == conn) x.core.seats) where
    none : place_of conn x.core.seats ≡ None
    none = none_is conn x.core.seats is

    pub no_piece : (piece : List ℕ) → x ≡ many.met (Piece conn piece) x
    no_piece piece = strange_piece_is x.paths x.limits x.core.cores (seating_of x) hung_up conn none piece

    pub no_piece_moves : (piece : List ℕ) → MovesNobody (Piece conn piece) x
    no_piece_moves piece = strange_piece_moves x.paths x.limits x.core.cores (seating_of x) hung_up conn none piece

    pub no_taking : (count : ℕ) → x ≡ many.met (Took conn count) x
    no_taking count = strange_taking_is x.paths x.limits x.core.cores (seating_of x) hung_up conn none count

    pub no_taking_moves : (count : ℕ) → MovesNobody (Took conn count) x
    no_taking_moves count = strange_taking_moves x.paths x.limits x.core.cores (seating_of x) hung_up conn none count

    pub no_leaving : x ≡ many.met (Left conn) x
    no_leaving = strange_leaving_is x.paths x.limits x.core.cores (seating_of x) hung_up conn none

    pub no_leaving_moves : MovesNobody (Left conn) x
    no_leaving_moves = strange_leaving_moves x.paths x.limits x.core.cores (seating_of x) hung_up conn none

  -- ---- it has chosen ----

  module _ (i : ℕ) (is : Some i ≡ position (λ (seat : Seat). seat.conn == conn) x.core.seats) (within : i < length x.core.seats) (chosen : Chosen) (chose : (seat : Seat) → IsSeat seat x.core.seats i → chosen_in seat.place ≡ Some chosen) where
    abbrev seat : Seat
    seat = (first_of x.core.seats i within).0

    abbrev at : IsSeat seat x.core.seats i
    at = (first_of x.core.seats i within).1

    its_place : seat.place ≡ At chosen.device chosen.name
    its_place = of_chosen seat.place chosen (chose seat at)

    pub its_piece : (piece : List ℕ) → with_cores (at_place chosen.device (met (one.Piece chosen.name piece)) x.core.cores) x ≡ many.met (Piece conn piece) x
    its_piece piece = piece_is x.paths x.limits x.core.cores (seating_of x) hung_up conn i is seat at chosen.device chosen.name its_place piece

    pub its_piece_moves : (piece : List ℕ) → HasNoFewer chosen.device (one.Piece chosen.name piece) x.core.cores → MovesNobody (Piece conn piece) x
    its_piece_moves piece fewer = piece_moves x.paths x.limits x.core.cores (seating_of x) hung_up conn i is seat at chosen.device chosen.name its_place piece fewer

    pub its_taking : (count : ℕ) → with_cores (at_place chosen.device (met (one.Took chosen.name count)) x.core.cores) x ≡ many.met (Took conn count) x
    its_taking count = taking_is x.paths x.limits x.core.cores (seating_of x) hung_up conn i is seat at chosen.device chosen.name its_place count

    pub its_taking_moves : (count : ℕ) → HasNoFewer chosen.device (one.Took chosen.name count) x.core.cores → MovesNobody (Took conn count) x
    its_taking_moves count fewer = taking_moves x.paths x.limits x.core.cores (seating_of x) hung_up conn i is seat at chosen.device chosen.name its_place count fewer

    pub its_leaving : with_cores (at_place chosen.device (met (one.Left chosen.name)) x.core.cores) (without_place i x) ≡ many.met (Left conn) x
    its_leaving = leaving_is x.paths x.limits x.core.cores (seating_of x) hung_up conn i is seat at chosen.device chosen.name its_place

    -- as many bytes wait for it as its device's core says
    pub its_queue : queue_at qmi_handlers x.core.cores (place_of conn x.core.seats) ≡ queue_at qmi_handlers x.core.cores (Some (At chosen.device chosen.name))
    its_queue = ap (queue_at qmi_handlers x.core.cores) (place_is conn x.core.seats i is seat at ∙ ap Some its_place)

  -- ---- it hasn't ----

  module _ (i : ℕ) (is : Some i ≡ position (λ (seat : Seat). seat.conn == conn) x.core.seats) (within : i < length x.core.seats) (unchosen : (seat : Seat) → IsSeat seat x.core.seats i → chosen_in seat.place ≡ None) where
    pub waits_for_nothing : (count : ℕ) → x ≡ many.met (Took conn count) x
    waits_for_nothing count = (let found = first_of x.core.seats i within in idle_taking_is x.paths x.limits x.core.cores (seating_of x) hung_up conn i is found.0 found.1 (said_in (found.0).place) (of_none (found.0).place (unchosen found.0 found.1)) count)

    pub waits_for_nothing_moves : (count : ℕ) → MovesNobody (Took conn count) x
    waits_for_nothing_moves count = (let found = first_of x.core.seats i within in idle_taking_moves x.paths x.limits x.core.cores (seating_of x) hung_up conn i is found.0 found.1 (said_in (found.0).place) (of_none (found.0).place (unchosen found.0 found.1)) count)

    pub goes_unchosen : without_place i x ≡ many.met (Left conn) x
    goes_unchosen = (let found = first_of x.core.seats i within in early_leaving_is x.paths x.limits x.core.cores (seating_of x) hung_up conn i is found.0 found.1 (said_in (found.0).place) (of_none (found.0).place (unchosen found.0 found.1)))
