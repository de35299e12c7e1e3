use Rattle.std.proofs.Common.{rules, ◌≡◌, ℕ, ◌+◌, ◌-◌, ◌<◌, ◌++◌, List, length, map, take, get_or, set, ap, sym, ◌∙◌, subst, arith, Some, None}
use Rattle.std.proofs.lemmas.List.{length-append}
use Rattle.kit_bytes.proofs.Lists.{all_set}
use Rattle.qmi_state.specs.Core.{QmiCore}
use Rattle.many_history.specs.Events.{Piece}
use Rattle.many_history.specs.Many.{Undecided, At, Seat, arrival}
use Rattle.many_state.specs.Core.{names_of}
use Rattle.many_seats.specs.Seats.{Seating, IsPlaceOf, said_in, next_name}
use Rattle.many_cores.specs.Cores.{after, at_place}
use Rattle.many_cores.proofs.Places.{some_at, got_at, at_place_set, at_place_length}
use Rattle.many_core.specs.Core.{ManyCore, MovesNobody}
use Rattle.many_core.specs.Core as many
use Rattle.many_core.proofs.Greatest.{greatest_of, names_are, is_newer, name_set, arrived_greatest}
use Rattle.many_core.proofs.Inside.{PlacesFit}
use Rattle.many_core.proofs.Meeting.{value}
use Rattle.many_core.proofs.Moving.{hearing_is, hearing_moves, choosing_is}
use Rattle.many_core.proofs.Hearing.{hears, says, stream_is, chooses, is_named, set_twice, front_is}
use Rattle.many_core.proofs.many.ManyCore.hear.Goals as goal

pub said_at-stream-requires : goal.said_at-stream-requires
said_at-stream-requires c = (hears c.self.inside.seats c.say.new.self c.args.place c.args.piece.now (subst (λ (v : ManyCore). c.args.place < length v.core.seats) (sym c.self.view_is) c.requires.within) c.say.ensures).still

pub invariant_of-self : goal.invariant_of-self
invariant_of-self c =
    let s : Seating = c.self.inside.seats in
    let a = says c.self.inside.paths c.self.inside.limits c.self.inside.cores c.self.inside.seats c.say.new.self c.args.place c.args.conn c.args.piece.now _ c.self.view_is c.requires.at c.requires.within c.requires.undecided c.requires.hung_up c.say.ensures in
    let h = a.heard in
    record {
      some = c.self.invariant.some;
      count = c.self.invariant.count;
      names = ap (λ (t : Seating). t.names) h.said ∙ c.self.invariant.names;
      places =
          subst (λ (t : Seating). PlacesFit (length c.self.inside.paths) t.seats) (sym h.said)
          (all_set (λ (k : Seat). IsPlaceOf (length c.self.inside.paths) k.place) s.seats c.args.place (record { conn = h.seat.conn; place = Undecided (said_in h.seat.place ++ c.args.piece.now) }) h.seat
          (λ was. subst (λ (l : List ℕ). length l < 65536) (stream_is c.self.inside.seats c.say.new.self c.args.place c.args.piece.now c.said_at-stream.result.now h c.said_at-stream.ensures) (c.in_default.ensures.bounded (search rules))) c.self.invariant.places);
    }

pub returns-in_default-clause-met : goal.returns-in_default-clause-met
returns-in_default-clause-met c =
    let s : Seating = c.self.inside.seats in
    let p = c.self.inside.paths in
    let limits = c.self.inside.limits in
    let cores : List QmiCore = c.self.inside.cores in
    let a = says c.self.inside.paths c.self.inside.limits c.self.inside.cores c.self.inside.seats c.say.new.self c.args.place c.args.conn c.args.piece.now _ c.self.view_is c.requires.at c.requires.within c.requires.undecided c.requires.hung_up c.say.ensures in
    let h = a.heard in
    ap (value p limits cores) h.said
    ∙ hearing_is p limits cores s a.hung_up c.args.conn c.args.place a.stands h.seat h.at (said_in h.seat.place) a.undecided c.args.piece.now (chooses c.self.inside.paths limits c.said_at-stream.result.now (said_in h.seat.place ++ c.args.piece.now) None (stream_is c.self.inside.seats c.say.new.self c.args.place c.args.piece.now c.said_at-stream.result.now h c.said_at-stream.ensures) (c.in_default.ensures.choice limits.time limits.release))
    ∙ ap (λ (v : ManyCore). many.met (Piece c.args.conn c.args.piece.now) v) c.self.view_is

pub returns-in_default-clause-moved : goal.returns-in_default-clause-moved
returns-in_default-clause-moved c = λ quiet.
    let limits = c.self.inside.limits in
    let a = says c.self.inside.paths c.self.inside.limits c.self.inside.cores c.self.inside.seats c.say.new.self c.args.place c.args.conn c.args.piece.now _ c.self.view_is c.requires.at c.requires.within c.requires.undecided c.requires.hung_up c.say.ensures in
    let h = a.heard in
    subst (λ (v : ManyCore). MovesNobody (Piece c.args.conn c.args.piece.now) v) c.self.view_is
    (hearing_moves c.self.inside.paths limits c.self.inside.cores c.self.inside.seats a.hung_up c.args.conn c.args.place a.stands h.seat h.at (said_in h.seat.place) a.undecided c.args.piece.now
    (chooses c.self.inside.paths limits c.said_at-stream.result.now (said_in h.seat.place ++ c.args.piece.now) None (stream_is c.self.inside.seats c.say.new.self c.args.place c.args.piece.now c.said_at-stream.result.now h c.said_at-stream.ensures) (c.in_default.ensures.choice limits.time limits.release)))

pub next_name-name-requires-clause-within : goal.next_name-name-requires-clause-within
next_name-name-requires-clause-within c = (hears c.self.inside.seats c.say.new.self c.args.place c.args.piece.now (subst (λ (v : ManyCore). c.args.place < length v.core.seats) (sym c.self.view_is) c.requires.within) c.say.ensures).still

pub next_name-name-requires-clause-device : goal.next_name-name-requires-clause-device
next_name-name-requires-clause-device c =
    let h = hears c.self.inside.seats c.say.new.self c.args.place c.args.piece.now (subst (λ (v : ManyCore). c.args.place < length v.core.seats) (sym c.self.view_is) c.requires.within) c.say.ensures in
    (is_named c.say.new.self.names c.self.inside.cores (length c.self.inside.paths) c.in-Some.device c.self.invariant.count (ap (λ (t : Seating). t.names) h.said ∙ c.self.invariant.names) (c.in-Some.ensures.within c.self.invariant.some)).listed

pub slice_bounds-before-count : goal.slice_bounds-before-count
slice_bounds-before-count c =
    let h = hears c.self.inside.seats c.say.new.self c.args.place c.args.piece.now (subst (λ (v : ManyCore). c.args.place < length v.core.seats) (sym c.self.view_is) c.requires.within) c.say.ensures in
    omega (arith, ap (λ (l : List ℕ). length l) (stream_is c.self.inside.seats c.say.new.self c.args.place c.args.piece.now c.said_at-stream.result.now h c.said_at-stream.ensures), length-append (said_in h.seat.place) c.args.piece.now)

pub arrive-requires-clause-newer : goal.arrive-requires-clause-newer
arrive-requires-clause-newer c = λ core at.
    let cores : List QmiCore = c.self.inside.cores in
    let d = c.in-Some.device in
    let h = hears c.self.inside.seats c.say.new.self c.args.place c.args.piece.now (subst (λ (v : ManyCore). c.args.place < length v.core.seats) (sym c.self.view_is) c.requires.within) c.say.ensures in
    let named = is_named c.say.new.self.names c.self.inside.cores (length c.self.inside.paths) c.in-Some.device c.self.invariant.count (ap (λ (t : Seating). t.names) h.said ∙ c.self.invariant.names) (c.in-Some.ensures.within c.self.invariant.some) in
    omega (arith, c.next_name-name.ensures, ap (λ (l : List ℕ). get_or l d 0) named.greatest, names_are cores d, is_newer cores d core (got_at cores d core named.within at))

pub choose-requires-clause-within : goal.choose-requires-clause-within
choose-requires-clause-within c = (hears c.self.inside.seats c.say.new.self c.args.place c.args.piece.now (subst (λ (v : ManyCore). c.args.place < length v.core.seats) (sym c.self.view_is) c.requires.within) c.say.ensures).still

pub choose-requires-clause-device : goal.choose-requires-clause-device
choose-requires-clause-device c =
    let h = hears c.self.inside.seats c.say.new.self c.args.place c.args.piece.now (subst (λ (v : ManyCore). c.args.place < length v.core.seats) (sym c.self.view_is) c.requires.within) c.say.ensures in
    (is_named c.say.new.self.names c.self.inside.cores (length c.self.inside.paths) c.in-Some.device c.self.invariant.count (ap (λ (t : Seating). t.names) h.said ∙ c.self.invariant.names) (c.in-Some.ensures.within c.self.invariant.some)).listed

pub invariant_of-self-2 : goal.invariant_of-self-2
invariant_of-self-2 c =
    let s : Seating = c.self.inside.seats in
    let i = c.args.place in
    let piece : List ℕ = c.args.piece.now in
    let a = says c.self.inside.paths c.self.inside.limits c.self.inside.cores c.self.inside.seats c.say.new.self c.args.place c.args.conn c.args.piece.now _ c.self.view_is c.requires.at c.requires.within c.requires.undecided c.requires.hung_up c.say.ensures in
    let h = a.heard in
    let cores : List QmiCore = c.self.inside.cores in
    let d = c.in-Some.device in
    let named = is_named c.say.new.self.names c.self.inside.cores (length c.self.inside.paths) c.in-Some.device c.self.invariant.count (ap (λ (t : Seating). t.names) h.said ∙ c.self.invariant.names) (c.in-Some.ensures.within c.self.invariant.some) in
    let name = c.next_name-name.result in
    let bytes : List ℕ = c.said_at-stream.result.now in
    let before_it : List ℕ = take (length bytes - length piece) bytes in
    let core = some_at cores d named.within in
    let arrived = c.arrive.ensures core.0 core.1 ∙ at_place_set (after (arrival name before_it piece)) cores d core.0 named.within core.1 in
    let chosen = c.choose.ensures (record { conn = h.seat.conn; place = Undecided (said_in h.seat.place ++ piece) }) h.sits in
    let new : Seat = record { conn = h.seat.conn; place = At d (next_name d c.say.new.self) } in
    let seats = ap (λ (t : Seating). t.seats) chosen ∙ ap (λ (t : Seating). set t.seats i new) h.said ∙ set_twice s.seats i _ new in
    record {
      some = c.self.invariant.some;
      count = ap (λ (l : List QmiCore). length l) arrived ∙ at_place_length (after (arrival name before_it piece)) cores d ∙ c.self.invariant.count;
      names =
          ap (λ (t : Seating). t.names) chosen
          ∙ ap (λ (n : ℕ). set c.say.new.self.names d n) (sym c.next_name-name.ensures)
          ∙ ap (λ (l : List ℕ). set l d name) named.greatest
          ∙ name_set greatest_of (after (arrival name before_it piece)) name (arrived_greatest name before_it piece) cores d
          ∙ sym (ap (λ (l : List QmiCore). map greatest_of l) arrived);
      places = subst (λ (l : List Seat). PlacesFit (length c.self.inside.paths) l) (sym seats) (all_set (λ (k : Seat). IsPlaceOf (length c.self.inside.paths) k.place) s.seats i new h.seat (λ was. c.in-Some.ensures.within c.self.invariant.some) c.self.invariant.places);
    }

pub returns-clause-met : goal.returns-clause-met
returns-clause-met c =
    let s : Seating = c.self.inside.seats in
    let i = c.args.place in
    let piece : List ℕ = c.args.piece.now in
    let p = c.self.inside.paths in
    let limits = c.self.inside.limits in
    let cores : List QmiCore = c.self.inside.cores in
    let d = c.in-Some.device in
    let a = says c.self.inside.paths c.self.inside.limits c.self.inside.cores c.self.inside.seats c.say.new.self c.args.place c.args.conn c.args.piece.now _ c.self.view_is c.requires.at c.requires.within c.requires.undecided c.requires.hung_up c.say.ensures in
    let h = a.heard in
    let before : List ℕ = said_in h.seat.place in
    let named = is_named c.say.new.self.names c.self.inside.cores (length c.self.inside.paths) c.in-Some.device c.self.invariant.count (ap (λ (t : Seating). t.names) h.said ∙ c.self.invariant.names) (c.in-Some.ensures.within c.self.invariant.some) in
    let name = c.next_name-name.result in
    let core = some_at cores d named.within in
    let bytes : List ℕ = c.said_at-stream.result.now in
    let count : ℕ = length bytes - length piece in
    let next : ℕ = names_of cores d + 1 in
    let is_next : next_name d c.say.new.self ≡ next = ap (λ (l : List ℕ). get_or l d 0 + 1) named.greatest ∙ ap (λ (n : ℕ). n + 1) (names_are cores d) in
    let arrived =
    c.arrive.ensures core.0 core.1
    ∙ at_place_set (after (arrival name (take count bytes) piece)) cores d core.0 named.within core.1
    ∙ ap (λ (n : ℕ). at_place d (after (arrival n (take count bytes) piece)) cores) (c.next_name-name.ensures ∙ is_next)
    ∙ ap (λ (l : List ℕ). at_place d (after (arrival next l piece)) cores) (front_is before piece bytes (stream_is c.self.inside.seats c.say.new.self c.args.place c.args.piece.now c.said_at-stream.result.now h c.said_at-stream.ensures))
    in
    let chosen = c.choose.ensures (record { conn = h.seat.conn; place = Undecided (before ++ piece) }) h.sits in
    let new : Seat = record { conn = h.seat.conn; place = At d (next_name d c.say.new.self) } in
    let seats =
    ap (λ (t : Seating). t.seats) chosen ∙ ap (λ (t : Seating). set t.seats i new) h.said ∙ set_twice s.seats i _ new ∙ ap (λ (n : ℕ). let k : Seat = record { conn = h.seat.conn; place = At d n } in set s.seats i k) is_next
    in
    ap (λ (l : List QmiCore). value p limits l c.choose.new.self) arrived
    ∙ choosing_is p limits cores s a.hung_up c.args.conn i a.stands h.seat h.at before a.undecided piece d (chooses p limits bytes (before ++ piece) (Some d) (stream_is c.self.inside.seats c.say.new.self c.args.place c.args.piece.now c.said_at-stream.result.now h c.said_at-stream.ensures) (c.in-Some.ensures.choice limits.time limits.release)) c.choose.new.self seats
    (ap (λ (t : Seating). t.dropped) chosen ∙ ap (λ (t : Seating). t.dropped) h.said) (ap (λ (t : Seating). t.greatest) chosen ∙ ap (λ (t : Seating). t.greatest) h.said)
    ∙ ap (λ (v : ManyCore). many.met (Piece c.args.conn piece) v) c.self.view_is
