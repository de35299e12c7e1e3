-- Each connection that is there at a core of several QMI devices has one seat, and at it waits what the definitions say. Lists of events have the newest first.
use Rattle.std.proofs.Common.{◌≡◌, ℕ, zero, suc, ◌+◌, ◌<◌, ◌≤◌, Bool, true, false, cond, nat_lt, ◌==◌, List, [], ◌∷◌, ◌++◌, length, drop, position, slice_get, refl, ap, sym, ◌∙◌, subst, arith, append_assoc, Option, Some, None}
use Rattle.std.specs.List.{AllByRecursion, IsDistinct, position_from}
use Rattle.std.specs.Option.{option_map}
use Rattle.std.proofs.lemmas.Bool.{eq-eqb}
use Rattle.std.proofs.lemmas.Iterator.Adapters.{position_from-zero}
use Rattle.std.proofs.lemmas.List.{drop-map}
use Rattle.kit_bytes.proofs.Lists.{all_weaker}
use Rattle.connections.specs.Table.{connection_in, left_for}
use Rattle.qmi_state.specs.Core.{QmiCore, kept_of}
use Rattle.qmi_state.specs.Transitions.{qmi_handlers}
use Rattle.many_history.specs.Events.{ManyEvent}
use Rattle.many_history.specs.Many.{Place, Undecided, At, Seat, conns_of, place_of, is_there_at, many, own}
use Rattle.many_history.specs.Coming.{NamesRise}
use Rattle.many_history.specs.Seated.{IsOfDevice}
use Rattle.many_history.proofs.Once.{one_if, times, times_append, behind, stands_once, seen, names_rise}
use Rattle.many_history.proofs.Places.{placed_of, seats_are_of_devices}
use Rattle.many_history.proofs.There.{place_of_front, placed_is_there, seats_are_there}
use Rattle.many_dropped.proofs.Dropping.{differ}
use Rattle.many_state.specs.Core.{has, is_there_in, queue_at, queue_under, waiting_at, waiting_under}
use Rattle.many_state.proofs.Steps.{there_is}
use Rattle.qmi_many.specs.Devices.{setup_at}
use Rattle.qmi_many_state.specs.Core.{KeepsStanding}
use Rattle.qmi_many_state.proofs.Cores.{keeps_standing}
use Rattle.many_core.specs.Core.{ManyCore, Stands, devices_of, text_for, has_waiting, first_waiting}
use Rattle.many_core.proofs.Waits.{there_waits}

-- ---- lists of seats ----

own_times : (c : ℕ) (seat : Seat) (seats : List Seat) → seat.conn ≡ c → times c (seat ∷ seats) ≡ 1 + times c seats
own_times c seat seats same = omega (arith, ap one_if (eq-eqb seat.conn c same))

first_stands : (seat : Seat) (seats : List Seat) → place_of seat.conn (seat ∷ seats) ≡ Some seat.place
unfolding place_of
first_stands seat seats = ap (λ (b : Bool). let o : Option Place = elim b [ true ↦ Some seat.place | false ↦ place_of seat.conn seats ] in o) (eq-eqb seat.conn seat.conn refl)

-- each of the later ones stands at its own place
each_stands : (front rest : List Seat) → ((c : ℕ) → times c (front ++ rest) ≤ 1) → AllByRecursion (λ seat. place_of seat.conn (front ++ rest) ≡ Some seat.place) rest
each_stands front [] once = tt
each_stands front (seat ∷ rest) once =
    let whole : (front ++ seat ∷ []) ++ rest ≡ front ++ seat ∷ rest = append_assoc front (seat ∷ []) rest in
    let none : times seat.conn front ≡ 0 = omega (arith, once seat.conn, times_append seat.conn front (seat ∷ rest), own_times seat.conn seat rest refl) in (
      behind seat.conn front (seat ∷ rest) none ∙ first_stands seat rest,
      subst (λ (l : List Seat). AllByRecursion (λ other. place_of other.conn l ≡ Some other.place) rest) whole (each_stands (front ++ seat ∷ []) rest (λ c. subst (λ (l : List Seat). times c l ≤ 1) (sym whole) (once c))),
    )

others_differ : (c : ℕ) (seats : List Seat) → times c seats ≡ 0 → AllByRecursion (λ d. (c == d) ≡ false) (conns_of seats)
others_differ c [] none = tt
others_differ c (seat ∷ seats) none = by (others_differ c seats) (seat.conn == c) refl none
  where
    by : (times c seats ≡ 0 → AllByRecursion (λ d. (c == d) ≡ false) (conns_of seats)) → (b : Bool) → (seat.conn == c) ≡ b → one_if b + times c seats ≡ 0 → AllByRecursion (λ d. (c == d) ≡ false) (conns_of (seat ∷ seats))
    by rest true same none = absurd (omega (arith, none))
    by rest false other none = (differ seat.conn c other, rest (omega (arith, none)))

all_differ : (seats : List Seat) → ((c : ℕ) → times c seats ≤ 1) → IsDistinct (λ c d. c == d) (conns_of seats)
unfolding IsDistinct
all_differ [] once = tt
all_differ (seat ∷ seats) once = (
  others_differ seat.conn seats (omega (arith, once seat.conn, own_times seat.conn seat seats refl)),
  all_differ seats (λ c. omega (arith, once c)),
)

-- the first whose seat passes is the first whose name does
same_place : (f : Seat → Bool) (g : ℕ → Bool) (i : ℕ) (seats : List Seat) → AllByRecursion (λ seat. f seat ≡ g seat.conn) seats → position_from f i seats ≡ position_from g i (conns_of seats)
same_place f g i [] all = refl
same_place f g i (seat ∷ seats) all = ap (λ (b : Bool). cond b (Some i) (position_from f (i + 1) seats)) all.0 ∙ ap (λ (o : Option ℕ). cond (g seat.conn) (Some i) o) (same_place f g (i + 1) seats all.1)

all_drop : (P : Seat → Type 0) (n : ℕ) (seats : List Seat) → AllByRecursion P seats → AllByRecursion P (drop n seats)
all_drop P zero seats all = all
all_drop P (suc n) [] all = tt
all_drop P (suc n) (seat ∷ seats) all = all_drop P n seats all.1

first_of_both : (f : Seat → Bool) (g : ℕ → Bool) (from : ℕ) (seats : List Seat) → AllByRecursion (λ seat. f seat ≡ g seat.conn) seats → position f (drop from seats) ≡ position g (drop from (conns_of seats))
first_of_both f g from seats all =
    position_from-zero f (drop from seats)
    ∙ same_place f g 0 (drop from seats) (all_drop (λ (seat : Seat). f seat ≡ g seat.conn) from seats all)
    ∙ sym (position_from-zero g (conns_of (drop from seats)))
    ∙ ap (position g) (sym (drop-map (λ (seat : Seat). seat.conn) from seats))

-- what waits for whoever is there is what waits at its place
queue_waits : (cores : List QmiCore) (place : Place) → is_there_in cores place ≡ true → queue_at qmi_handlers cores (Some place) ≡ waiting_at cores (Some place)
queue_waits cores (Undecided bytes) is = refl
queue_waits cores (At d name) is = by (slice_get cores d) is
  where
    by : (o : Option QmiCore) → has name o ≡ true → queue_under qmi_handlers name o ≡ waiting_under name o
    by None is = refl
    by (Some core) is = sym (there_waits (left_for name core.state.table.dropped) (connection_in name core.state.table.present) is)

module _ (x : ManyCore) (some : 0 < length x.paths) (events : List ManyEvent) (S : Stands events x) where
  K : KeepsStanding x.paths x.limits.time x.limits.release
  K = keeps_standing x.paths x.limits.time x.limits.release some

  pub rise : NamesRise events
  rise = names_rise (devices_of x) 0 events S.sound

  once : (c : ℕ) → times c x.core.seats ≤ 1
  once c = omega (arith, (stands_once (devices_of x) c events rise).once, seen (devices_of x) c events, ap (times c) S.seats)

  pub names_differ : IsDistinct (λ c d. c == d) (conns_of x.core.seats)
  names_differ = all_differ x.core.seats once

  place_waits : (c : ℕ) (place : Place) → place_of c x.core.seats ≡ Some place → waiting_at x.core.cores (Some place) ≡ (text_for x c events).waiting
  place_waits c place at = sym (ap (waiting_at x.core.cores) (place_of_front c x.core.seats x.core.dropped place at)) ∙ K.waiting events x.core c place S at

  is_there : (c : ℕ) (place : Place) → place_of c x.core.seats ≡ Some place → is_there_in x.core.cores place ≡ true
  is_there c place at =
      let s = devices_of x in
      let here : place_of c (many s events).seats ≡ Some place = ap (place_of c) (sym S.seats) ∙ at in
      let of : IsOfDevice s.count place = placed_of (IsOfDevice s.count) c (many s events).seats place (seats_are_of_devices s K.devices events) here in
      there_is s (λ d. kept_of (setup_at x.paths x.limits.time x.limits.release d)) (λ d. own s d events) x.core.cores S.count S.cores place of
      ∙ placed_is_there (is_there_at s (many s events).own) c (many s events).seats place (seats_are_there s events) here

  pub queue_is : (c : ℕ) (place : Place) → place_of c x.core.seats ≡ Some place → queue_at qmi_handlers x.core.cores (place_of c x.core.seats) ≡ (text_for x c events).waiting
  queue_is c place at = ap (queue_at qmi_handlers x.core.cores) at ∙ queue_waits x.core.cores place (is_there c place at) ∙ place_waits c place at

  pub first_is : (from : ℕ) → first_waiting from x ≡ option_map (λ at. from + at) (position (λ c. nat_lt 0 (length (text_for x c events).waiting)) (drop from (conns_of x.core.seats)))
  first_is from =
      let waits : ℕ → Bool = λ c. nat_lt 0 (length (text_for x c events).waiting) in
      ap (option_map (λ at. from + at))
      (first_of_both (has_waiting x.core.cores) waits from x.core.seats
      (all_weaker (λ (seat : Seat). place_of seat.conn x.core.seats ≡ Some seat.place) (λ (seat : Seat). has_waiting x.core.cores seat ≡ waits seat.conn) (λ seat at. ap (λ (l : List ℕ). nat_lt 0 (length l)) (ap (queue_at qmi_handlers x.core.cores) (sym at) ∙ queue_is seat.conn seat.place at)) x.core.seats (each_stands [] x.core.seats once)))
