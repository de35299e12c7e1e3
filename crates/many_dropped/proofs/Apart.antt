-- No connection is dropped twice by an event. Lists of events have the newest first.
use Rattle.std.proofs.Common.{◌≡◌, ℕ, ◌+◌, ◌<◌, ◌≤◌, max, Bool, true, false, not, ◌==◌, nat_lt, List, [], ◌∷◌, ◌++◌, length, refl, ap, sym, ◌∙◌, subst, arith, Option, Some, None}
use Rattle.std.specs.List.{AllByRecursion}
use Rattle.std.proofs.lemmas.Bool.{eqb-true}
use Rattle.std.proofs.lemmas.Bool.Decides.{nat_tests}
use Rattle.kit_bytes.specs.Sorted.{IsInOrder}
use Rattle.kit_bytes.proofs.Lists.{all_weaker, all_push, all_filter}
use Rattle.kit_bytes.proofs.Sorted.{in_order_filter, in_order_push}
use Rattle.many_history.specs.Events.{ManyEvent, Joined, Piece, Left, Took, ModemPiece, ModemGone, ModemBack, ModemTook, Now}
use Rattle.many_history.specs.Devices.{Devices, choice_on}
use Rattle.many_history.specs.Many.{Place, Undecided, At, Seat, place_of, placed, without, joined_if, chosen_if, said_by, seated, refused_unless, ended, is_there_at, names_in, own_after, seats_before, many}
use Rattle.many_history.specs.Coming.{greatest_conn, IsNew, AreSound}
use Rattle.many_dropped.specs.Law.{AreApart}

-- ---- whatever holds of all names ----

module _ (P : ℕ → Type 0) where
  abbrev Named : List Seat → Type 0
  Named seats = AllByRecursion (λ seat. P seat.conn) seats

  named_placed : (c : ℕ) (place : Place) (seats : List Seat) → Named seats → Named (placed c place seats)
  unfolding placed
  named_placed c place [] all = tt
  named_placed c place (seat ∷ seats) all = by (named_placed c place seats all.1) (seat.conn == c) refl
    where
      by : Named (placed c place seats) → (b : Bool) → (seat.conn == c) ≡ b → Named (elim b [ true ↦ record { conn = c; place = place } ∷ seats | false ↦ seat ∷ placed c place seats ])
      by rest true same = (subst P (eqb-true seat.conn c same) all.0, all.1)
      by rest false other = (all.0, rest)

  named_without : (c : ℕ) (seats : List Seat) → Named seats → Named (without c seats)
  unfolding without
  named_without c [] all = tt
  named_without c (seat ∷ seats) all = by (named_without c seats all.1) (seat.conn == c)
    where
      by : Named (without c seats) → (b : Bool) → Named (elim b [ true ↦ seats | false ↦ seat ∷ without c seats ])
      by rest true = all.1
      by rest false = (all.0, rest)

-- ---- each has a name of its own ----

abbrev Differs : Seat → Seat → Type 0
Differs one other = (one.conn == other.conn) ≡ false

apart_placed : (c : ℕ) (place : Place) (seats : List Seat) → AreApart seats → AreApart (placed c place seats)
unfolding placed IsInOrder
apart_placed c place [] apart = tt
apart_placed c place (seat ∷ seats) apart = by (apart_placed c place seats apart.1) (named_placed (λ n. (seat.conn == n) ≡ false) c place seats apart.0) (seat.conn == c) refl
  where
    by : AreApart (placed c place seats) → AllByRecursion (λ other. (seat.conn == other.conn) ≡ false) (placed c place seats) → (b : Bool) → (seat.conn == c) ≡ b
        → AreApart (elim b [ true ↦ record { conn = c; place = place } ∷ seats | false ↦ seat ∷ placed c place seats ])
    by rest others true same = (subst (λ (n : ℕ). AllByRecursion (λ (other : Seat). (n == other.conn) ≡ false) seats) (eqb-true seat.conn c same) apart.0, apart.1)
    by rest others false other = (others, rest)

apart_without : (c : ℕ) (seats : List Seat) → AreApart seats → AreApart (without c seats)
unfolding without IsInOrder
apart_without c [] apart = tt
apart_without c (seat ∷ seats) apart = by (apart_without c seats apart.1) (named_without (λ n. (seat.conn == n) ≡ false) c seats apart.0) (seat.conn == c)
  where
    by : AreApart (without c seats) → AllByRecursion (λ other. (seat.conn == other.conn) ≡ false) (without c seats) → (b : Bool) → AreApart (elim b [ true ↦ seats | false ↦ seat ∷ without c seats ])
    by rest others true = apart.1
    by rest others false = (others, rest)

-- ---- an event ----

-- names are known, and no two are the same
record IsSeated (greatest : ℕ) (seats : List Seat) : Type 0 where
  apart : AreApart seats
  known : AllByRecursion (λ seat. seat.conn ≤ greatest) seats

below : (n m : ℕ) → n < m → (n == m) ≡ false
below n m less = grind (arith, nat_tests, less)

above : (n m : ℕ) → m < n → (n == m) ≡ false
above n m less = grind (arith, nat_tests, less)

seated_joined : (b : Bool) (c greatest : ℕ) (seats : List Seat) → greatest < c → IsSeated greatest seats → IsSeated c (joined_if b c seats)
seated_joined true c greatest seats newer was = record {
  apart = in_order_push Differs seats (record { conn = c; place = Undecided [] }) (all_weaker (λ (seat : Seat). seat.conn ≤ greatest) (λ (seat : Seat). (seat.conn == c) ≡ false) (λ seat known. below seat.conn c (omega (arith, known, newer))) seats was.known) was.apart;
  known = all_push (λ (seat : Seat). seat.conn ≤ c) seats (record { conn = c; place = Undecided [] }) (all_weaker (λ (seat : Seat). seat.conn ≤ greatest) (λ (seat : Seat). seat.conn ≤ c) (λ seat known. omega (arith, known, newer)) seats was.known) (omega arith);
}
seated_joined false c greatest seats newer was = record { apart = was.apart; known = all_weaker (λ (seat : Seat). seat.conn ≤ greatest) (λ (seat : Seat). seat.conn ≤ c) (λ seat known. omega (arith, known, newer)) seats was.known }

seated_placed : (c greatest : ℕ) (place : Place) (seats : List Seat) → IsSeated greatest seats → IsSeated greatest (placed c place seats)
seated_placed c greatest place seats was = record { apart = apart_placed c place seats was.apart; known = named_placed (λ n. n ≤ greatest) c place seats was.known }

module _ {Known : Type 0} (s : Devices Known) where
  seated_chosen : (choice : Option ℕ) (c greatest : ℕ) (stream : List ℕ) (names : ℕ → ℕ) (seats : List Seat) → IsSeated greatest seats → IsSeated greatest (chosen_if choice c stream names seats)
  seated_chosen None c greatest stream names seats was = seated_placed c greatest (Undecided stream) seats was
  seated_chosen (Some d) c greatest stream names seats was = seated_placed c greatest (At d (names d + 1)) seats was

  seated_said : (place : Option Place) (c greatest : ℕ) (piece : List ℕ) (names : ℕ → ℕ) (seats : List Seat) → IsSeated greatest seats → IsSeated greatest (said_by s place c piece names seats)
  seated_said None c greatest piece names seats was = was
  seated_said (Some (Undecided before)) c greatest piece names seats was = seated_chosen (choice_on s (before ++ piece)) c greatest (before ++ piece) names seats was
  seated_said (Some (At d name)) c greatest piece names seats was = was

  seated_by : (event : ManyEvent) (events : List ManyEvent) (names : ℕ → ℕ) (seats : List Seat) → IsNew event events → IsSeated (greatest_conn events) seats → IsSeated (greatest_conn (event ∷ events)) (seated s event names seats)
  seated_by (Joined c) events names seats newer was =
      let most : max c (greatest_conn events) ≡ c = omega (arith, newer) in
      subst (λ (n : ℕ). IsSeated n (joined_if (nat_lt (length seats) s.limit) c seats)) (sym most) (seated_joined (nat_lt (length seats) s.limit) c (greatest_conn events) seats newer was)
  seated_by (Piece c bytes) events names seats newer was = seated_said (place_of c seats) c (greatest_conn events) bytes names seats was
  seated_by (Left c) events names seats newer was = record { apart = apart_without c seats was.apart; known = named_without (λ n. n ≤ greatest_conn events) c seats was.known }
  seated_by (Took c count) events names seats newer was = was
  seated_by (ModemPiece d bytes) events names seats newer was = was
  seated_by (ModemGone d) events names seats newer was = was
  seated_by (ModemBack d) events names seats newer was = was
  seated_by (ModemTook d count) events names seats newer was = was
  seated_by (Now time) events names seats newer was = was

  -- ---- all events ----

  all_seated : (events : List ManyEvent) → AreSound s events → IsSeated (greatest_conn events) (many s events).seats
  unfolding many IsInOrder
  all_seated [] sound = record { apart = tt; known = tt }
  all_seated (event ∷ events) sound =
      let m = many s events in
      let is_there = is_there_at s (own_after s event m) in
      let was = seated_by event events (names_in m.own) m.seats (sound.0).0 (all_seated events sound.1) in
      record {
        apart = in_order_filter Differs (λ (seat : Seat). is_there seat.place) (seats_before s event m) was.apart;
        known = all_filter (λ (seat : Seat). seat.conn ≤ greatest_conn (event ∷ events)) (λ (seat : Seat). is_there seat.place) (seats_before s event m) was.known;
      }

  ended_apart : (event : ManyEvent) (events : List ManyEvent) → AreSound s (event ∷ events) → (let m = many s events in AreApart (ended (is_there_at s (own_after s event m)) (seats_before s event m)))
  ended_apart event events sound =
      let m = many s events in
      in_order_filter Differs (λ (seat : Seat). not (is_there_at s (own_after s event m) seat.place)) (seats_before s event m) (seated_by event events (names_in m.own) m.seats (sound.0).0 (all_seated events sound.1)).apart

  refused_apart : (b : Bool) (c : ℕ) (events : List ManyEvent) → (sound : AreSound s (Joined c ∷ events)) → nat_lt (length (many s events).seats) s.limit ≡ b
      → (let m = many s events in AreApart (refused_unless b c ++ ended (is_there_at s (own_after s (Joined c) m)) (seats_before s (Joined c) m)))
  unfolding IsInOrder
  refused_apart true c events sound room = ended_apart (Joined c) events sound
  refused_apart false c events sound full =
      let m = many s events in
      let is_there = is_there_at s (own_after s (Joined c) m) in
      let newer : greatest_conn events < c = (sound.0).0 in
      let others : AllByRecursion (λ seat. (c == seat.conn) ≡ false) m.seats =
      all_weaker (λ (seat : Seat). seat.conn ≤ greatest_conn events) (λ (seat : Seat). (c == seat.conn) ≡ false) (λ seat known. above c seat.conn (omega (arith, known, newer))) m.seats (all_seated events sound.1).known
      in
      let same : seats_before s (Joined c) m ≡ m.seats = ap (λ (b : Bool). joined_if b c m.seats) full in
      (all_filter (λ (seat : Seat). (c == seat.conn) ≡ false) (λ (seat : Seat). not (is_there seat.place)) (seats_before s (Joined c) m) (subst (λ (l : List Seat). AllByRecursion (λ (seat : Seat). (c == seat.conn) ≡ false) l) (sym same) others), ended_apart (Joined c) events sound)

  pub dropped_apart : (events : List ManyEvent) → AreSound s events → AreApart (many s events).dropped
  unfolding many IsInOrder
  dropped_apart [] sound = tt
  dropped_apart (Joined c ∷ events) sound = refused_apart (nat_lt (length (many s events).seats) s.limit) c events sound refl
  dropped_apart (Piece c bytes ∷ events) sound = ended_apart (Piece c bytes) events sound
  dropped_apart (Left c ∷ events) sound = ended_apart (Left c) events sound
  dropped_apart (Took c count ∷ events) sound = ended_apart (Took c count) events sound
  dropped_apart (ModemPiece d bytes ∷ events) sound = ended_apart (ModemPiece d bytes) events sound
  dropped_apart (ModemGone d ∷ events) sound = ended_apart (ModemGone d) events sound
  dropped_apart (ModemBack d ∷ events) sound = ended_apart (ModemBack d) events sound
  dropped_apart (ModemTook d count ∷ events) sound = ended_apart (ModemTook d count) events sound
  dropped_apart (Now time ∷ events) sound = ended_apart (Now time) events sound

-- ---- one that stands behind others ----

place_is_name : (c : ℕ) (seats : List Seat) (place : Place) (P : ℕ → Type 0) → AllByRecursion (λ seat. P seat.conn) seats → place_of c seats ≡ Some place → P c
unfolding place_of
place_is_name c [] place P all at = absurd (cc)
place_is_name c (seat ∷ seats) place P all at = by (place_is_name c seats place P all.1) (seat.conn == c) refl at
  where
    by : (place_of c seats ≡ Some place → P c) → (b : Bool) → (seat.conn == c) ≡ b → (let o : Option Place = elim b [ true ↦ Some seat.place | false ↦ place_of c seats ] in o) ≡ Some place → P c
    by rest true same e = subst P (eqb-true seat.conn c same) all.0
    by rest false other e = rest e

all_behind : (P : Seat → Type 0) (front seats : List Seat) → AllByRecursion P (front ++ seats) → AllByRecursion P seats
all_behind P [] seats all = all
all_behind P (seat ∷ front) seats all = all_behind P front seats all.1

-- the place of one of the last is its place
pub place_behind : (c : ℕ) (front seats : List Seat) (place : Place) → AreApart (front ++ seats) → place_of c seats ≡ Some place → place_of c (front ++ seats) ≡ Some place
unfolding place_of IsInOrder
place_behind c [] seats place apart at = at
place_behind c (seat ∷ front) seats place apart at =
    let other : (seat.conn == c) ≡ false = place_is_name c seats place (λ n. (seat.conn == n) ≡ false) (all_behind (λ (l : Seat). (seat.conn == l.conn) ≡ false) front seats apart.0) at in
    ap (λ (b : Bool). let o : Option Place = elim b [ true ↦ Some seat.place | false ↦ place_of c (front ++ seats) ] in o) other ∙ place_behind c front seats place apart.1 at
