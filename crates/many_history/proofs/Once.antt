-- A connection has one place, whether it is there or gone.
use Rattle.std.proofs.Common.{◌≡◌, ℕ, ◌+◌, ◌<◌, ◌≤◌, Bool, true, false, not, cond, ◌==◌, nat_lt, List, [], ◌∷◌, ◌++◌, length, refl, ap, sym, ◌∙◌, arith, Option, Some, None}
use Rattle.std.proofs.lemmas.Bool.{eqb-true}
use Rattle.std.proofs.lemmas.List.{append-nil}
use Rattle.proxy_history.specs.Events.{Event}
use Rattle.many_history.specs.Events.{ManyEvent, Joined, Piece, Left, Took, ModemPiece, ModemGone, ModemBack, ModemTook, Now}
use Rattle.many_history.specs.Devices.{Devices, choice_on}
use Rattle.many_history.specs.Many.{Place, Undecided, At, Seat, place_of, placed, without, seat_of, joined_if, chosen_if, said_by, seated, refused_unless, left, there, ended, is_there_at, names_in, own_after, seats_before, many}
use Rattle.many_history.specs.Queues.{text_at, text_for}
use Rattle.many_history.specs.Coming.{greatest_conn, IsNew, NamesRise, AreSound}

abbrev pub one_if : Bool → ℕ
one_if true = 1
one_if false = 0

abbrev pub times : ℕ → List Seat → ℕ
times c [] = 0
times c (seat ∷ seats) = one_if (seat.conn == c) + times c seats

-- ---- a list of seats ----

pub times_append : (c : ℕ) (seats more : List Seat) → times c (seats ++ more) ≡ times c seats + times c more
times_append c [] more = omega arith
times_append c (seat ∷ seats) more = omega (arith, times_append c seats more)

times_placed : (c other : ℕ) (place : Place) (seats : List Seat) → times c (placed other place seats) ≡ times c seats
unfolding placed
times_placed c other place [] = refl
times_placed c other place (seat ∷ seats) = by (times_placed c other place seats) (seat.conn == other) refl
  where
    by : times c (placed other place seats) ≡ times c seats → (b : Bool) → (seat.conn == other) ≡ b
        → times c (elim b [ true ↦ record { conn = other; place = place } ∷ seats | false ↦ seat ∷ placed other place seats ]) ≡ one_if (seat.conn == c) + times c seats
    by rest true here = ap (λ (n : ℕ). one_if (n == c) + times c seats) (sym (eqb-true seat.conn other here))
    by rest false there = ap (λ (n : ℕ). one_if (seat.conn == c) + n) rest

times_without : (c other : ℕ) (seats : List Seat) → times c (without other seats) + times c (seat_of other (place_of other seats)) ≡ times c seats
unfolding without place_of
times_without c other [] = refl
times_without c other (seat ∷ seats) = by (times_without c other seats) (seat.conn == other) refl
  where
    by : times c (without other seats) + times c (seat_of other (place_of other seats)) ≡ times c seats → (b : Bool) → (seat.conn == other) ≡ b
        → times c (elim b [ true ↦ seats | false ↦ seat ∷ without other seats ]) + times c (seat_of other (elim b [ true ↦ Some seat.place | false ↦ place_of other seats ])) ≡ one_if (seat.conn == c) + times c seats
    by rest true here = omega (arith, ap (λ (n : ℕ). one_if (n == c)) (eqb-true seat.conn other here))
    by rest false there = omega (arith, rest)

pub times_there : (c : ℕ) (f : Place → Bool) (seats : List Seat) → times c (there f seats) + times c (ended f seats) ≡ times c seats
times_there c f [] = refl
times_there c f (seat ∷ seats) = by (times_there c f seats) (f seat.place)
  where
    by : times c (there f seats) + times c (ended f seats) ≡ times c seats → (b : Bool)
        → times c (cond b (seat ∷ there f seats) (there f seats)) + times c (cond (not b) (seat ∷ ended f seats) (ended f seats)) ≡ one_if (seat.conn == c) + times c seats
    by rest true = omega (arith, rest)
    by rest false = omega (arith, rest)

pub some_times : (c : ℕ) (seats : List Seat) (place : Place) → place_of c seats ≡ Some place → 1 ≤ times c seats
unfolding place_of
some_times c [] place at = absurd (cc)
some_times c (seat ∷ seats) place at = by (some_times c seats place) (seat.conn == c) at
  where
    by : (place_of c seats ≡ Some place → 1 ≤ times c seats) → (b : Bool) → (elim b [ true ↦ Some seat.place | false ↦ place_of c seats ]) ≡ Some place → 1 ≤ one_if b + times c seats
    by rest true is = omega arith
    by rest false is = omega (arith, rest is)

-- one that doesn't stand in the first list stands where it does in the second
pub behind : (c : ℕ) (seats more : List Seat) → times c seats ≡ 0 → place_of c (seats ++ more) ≡ place_of c more
unfolding place_of
behind c [] more none = refl
behind c (seat ∷ seats) more none = by (behind c seats more) (seat.conn == c) none
  where
    by : (times c seats ≡ 0 → place_of c (seats ++ more) ≡ place_of c more) → (b : Bool) → one_if b + times c seats ≡ 0 → (let o : Option Place = elim b [ true ↦ Some seat.place | false ↦ place_of c (seats ++ more) ] in o) ≡ place_of c more
    by rest true is = absurd (omega (arith, is))
    by rest false is = rest (omega (arith, is))

pub nowhere : (c : ℕ) (seats : List Seat) → times c seats ≡ 0 → place_of c seats ≡ None
unfolding place_of
nowhere c seats none = ap (place_of c) (sym (append-nil seats)) ∙ behind c seats [] none

-- ---- an event ----

module _ {Known : Type 0} (s : Devices Known) (c : ℕ) where
  joins_once : ManyEvent → ℕ
  joins_once (Joined d) = one_if (d == c)
  joins_once _ = 0

  module _ (names : ℕ → ℕ) (seats : List Seat) where
    chosen_times : (choice : Option ℕ) (other : ℕ) (stream : List ℕ) → times c (chosen_if choice other stream names seats) ≡ times c seats
    chosen_times None other stream = times_placed c other (Undecided stream) seats
    chosen_times (Some d) other stream = times_placed c other (At d (names d + 1)) seats

    said_times : (place : Option Place) (other : ℕ) (piece : List ℕ) → times c (said_by s place other piece names seats) ≡ times c seats
    said_times None other piece = refl
    said_times (Some (Undecided before)) other piece = chosen_times (choice_on s (before ++ piece)) other (before ++ piece)
    said_times (Some (At d name)) other piece = refl

    joined_times : (b : Bool) (other : ℕ) → times c (joined_if b other seats) ≤ times c seats + one_if (other == c)
    joined_times true other = omega (arith, times_append c seats (record { conn = other; place = Undecided [] } ∷ []))
    joined_times false other = omega arith

    seated_times : (event : ManyEvent) → times c (seated s event names seats) + times c (left event seats) ≤ times c seats + joins_once event
    unfolding joins_once
    seated_times (Joined d) = omega (arith, joined_times (nat_lt (length seats) s.limit) d)
    seated_times (Piece d bytes) = omega (arith, said_times (place_of d seats) d bytes)
    seated_times (Left d) = omega (arith, times_without c d seats)
    seated_times (Took d count) = omega arith
    seated_times (ModemPiece d bytes) = omega arith
    seated_times (ModemGone d) = omega arith
    seated_times (ModemBack d) = omega arith
    seated_times (ModemTook d count) = omega arith
    seated_times (Now time) = omega arith

  -- ---- all events ----

  pub times_in : List ManyEvent → ℕ
  times_in events = times c (many s events).seats + times c (many s events).gone

  pub seen : (events : List ManyEvent) → times_in events ≡ times c (many s events).seats + times c (many s events).gone
  unfolding times_in
  seen events = refl

  -- how often it stands behind an event among who is there and who is gone, for whoever was there
  pub step_times : (event : ManyEvent) (events : List ManyEvent) → (let m = many s events in
      times_in (event ∷ events) ≡ times c (seats_before s event m) + times c m.gone + times c (left event m.seats))
  unfolding many times_in
  step_times event events =
      let m = many s events in
      let is_there = is_there_at s (own_after s event m) in
      let gone : List Seat = ended is_there (seats_before s event m) in
      omega (arith, times_there c is_there (seats_before s event m), times_append c (m.gone ++ left event m.seats) gone, times_append c m.gone (left event m.seats))

  pub record StandsOnce (events : List ManyEvent) : Type 0 where
    pub once : times_in events ≤ 1
    pub unknown : greatest_conn events < c → times_in events ≡ 0

  stays_once : (event : ManyEvent) (events : List ManyEvent) → StandsOnce events → IsNew event events → times_in (event ∷ events) ≤ times_in events + joins_once event → StandsOnce (event ∷ events)
  unfolding joins_once
  stays_once (Joined d) events was new grown = by (d == c) refl grown
    where
      by : (b : Bool) → (d == c) ≡ b → times_in (Joined d ∷ events) ≤ times_in events + one_if b → StandsOnce (Joined d ∷ events)
      by true here more =
          let same : d ≡ c = eqb-true d c here in
          let none : times_in events ≡ 0 = was.unknown (omega (arith, new, same)) in
          record { once = omega (arith, more, none); unknown = λ above. absurd (omega (arith, above, same)) }
      by false other more = record { once = omega (arith, more, was.once); unknown = λ above. omega (arith, more, was.unknown (omega (arith, above))) }
  stays_once (Piece d bytes) events was new grown = record { once = omega (arith, grown, was.once); unknown = λ above. omega (arith, grown, was.unknown above) }
  stays_once (Left d) events was new grown = record { once = omega (arith, grown, was.once); unknown = λ above. omega (arith, grown, was.unknown above) }
  stays_once (Took d count) events was new grown = record { once = omega (arith, grown, was.once); unknown = λ above. omega (arith, grown, was.unknown above) }
  stays_once (ModemPiece d bytes) events was new grown = record { once = omega (arith, grown, was.once); unknown = λ above. omega (arith, grown, was.unknown above) }
  stays_once (ModemGone d) events was new grown = record { once = omega (arith, grown, was.once); unknown = λ above. omega (arith, grown, was.unknown above) }
  stays_once (ModemBack d) events was new grown = record { once = omega (arith, grown, was.once); unknown = λ above. omega (arith, grown, was.unknown above) }
  stays_once (ModemTook d count) events was new grown = record { once = omega (arith, grown, was.once); unknown = λ above. omega (arith, grown, was.unknown above) }
  stays_once (Now time) events was new grown = record { once = omega (arith, grown, was.once); unknown = λ above. omega (arith, grown, was.unknown above) }

  pub stands_once : (events : List ManyEvent) → NamesRise events → StandsOnce events
  unfolding many times_in
  stands_once [] rise = record { once = omega arith; unknown = λ new. omega arith }
  stands_once (event ∷ events) rise =
      let m = many s events in
      stays_once event events (stands_once events rise.1) rise.0 (omega (arith, step_times event events, seated_times (names_in m.own) m.seats event))

  pub names_rise : (events : List ManyEvent) → AreSound s events → NamesRise events
  names_rise [] sound = tt
  names_rise (event ∷ events) sound = ((sound.0).0, names_rise events sound.1)

  -- ---- whom the last event ended ----

  abbrev HasBytesOf : List ManyEvent → Place → Type 0
  HasBytesOf events place = text_for s c events ≡ text_at s (many s events).own (Some place)

  ended_bytes : (event : ManyEvent) (events : List ManyEvent) (place : Place) → AreSound s (event ∷ events)
      → (let m = many s events in place_of c (ended (is_there_at s (own_after s event m)) (seats_before s event m)) ≡ Some place) → HasBytesOf (event ∷ events) place
  unfolding many times_in
  ended_bytes event events place sound at =
      let m = many s events in
      let is_there = is_there_at s (own_after s event m) in
      let present : List Seat = there is_there (seats_before s event m) in
      let left : List Seat = m.gone ++ left event m.seats in
      let gone : List Seat = ended is_there (seats_before s event m) in
      let once : times c present + times c (left ++ gone) ≤ 1 = (stands_once (event ∷ events) (names_rise (event ∷ events) sound)).once in
      let some : 1 ≤ times c gone = some_times c gone place at in
      let all : times c (left ++ gone) ≡ times c left + times c gone = times_append c left gone in
      ap (text_at s (own_after s event m)) (behind c present (left ++ gone) (omega (arith, once, some, all)) ∙ behind c left gone (omega (arith, once, some, all)) ∙ at)

  refused_bytes : (d : ℕ) (events : List ManyEvent) (place : Place) → AreSound s (Joined d ∷ events) → (b : Bool) → nat_lt (length (many s events).seats) s.limit ≡ b
      → (let m = many s events in place_of c (refused_unless b d ++ ended (is_there_at s (own_after s (Joined d) m)) (seats_before s (Joined d) m)) ≡ Some place) → HasBytesOf (Joined d ∷ events) place
  unfolding many times_in place_of
  refused_bytes d events place sound true room at = ended_bytes (Joined d) events place sound at
  refused_bytes d events place sound false full at = by (d == c) refl at
    where
      by : (b : Bool) → (d == c) ≡ b
          → (let m = many s events in (let o : Option Place = elim b [ true ↦ Some (Undecided []) | false ↦ place_of c (ended (is_there_at s (own_after s (Joined d) m)) (seats_before s (Joined d) m)) ] in o) ≡ Some place)
          → HasBytesOf (Joined d ∷ events) place
      by false other is = ended_bytes (Joined d) events place sound is
      by true here is =
          let m = many s events in
          let own : ℕ → List Event = own_after s (Joined d) m in
          let same : d ≡ c = eqb-true d c here in
          let none : times_in events ≡ 0 = (stands_once events (names_rise events sound.1)).unknown (omega (arith, (sound.0).0, same)) in
          let unchanged : times c (seats_before s (Joined d) m) ≡ times c m.seats = ap (λ (b : Bool). times c (joined_if b d m.seats)) full in
          let still : times_in (Joined d ∷ events) ≡ 0 = omega (arith, step_times (Joined d) events, unchanged, none) in
          let seats : List Seat = (many s (Joined d ∷ events)).seats in
          let gone : List Seat = (many s (Joined d ∷ events)).gone in
          let nothing : Undecided [] ≡ place = cc in
          ap (text_at s own) (nowhere c (seats ++ gone) (omega (arith, times_append c seats gone, still))) ∙ ap (λ (p : Place). text_at s own (Some p)) nothing

  pub dropped_bytes : (events : List ManyEvent) (place : Place) → AreSound s events → place_of c (many s events).dropped ≡ Some place → HasBytesOf events place
  unfolding many place_of
  dropped_bytes [] place sound at = absurd (cc)
  dropped_bytes (Joined d ∷ events) place sound at = refused_bytes d events place sound (nat_lt (length (many s events).seats) s.limit) refl at
  dropped_bytes (Piece d bytes ∷ events) place sound at = ended_bytes (Piece d bytes) events place sound at
  dropped_bytes (Left d ∷ events) place sound at = ended_bytes (Left d) events place sound at
  dropped_bytes (Took d count ∷ events) place sound at = ended_bytes (Took d count) events place sound at
  dropped_bytes (ModemPiece d bytes ∷ events) place sound at = ended_bytes (ModemPiece d bytes) events place sound at
  dropped_bytes (ModemGone d ∷ events) place sound at = ended_bytes (ModemGone d) events place sound at
  dropped_bytes (ModemBack d ∷ events) place sound at = ended_bytes (ModemBack d) events place sound at
  dropped_bytes (ModemTook d count ∷ events) place sound at = ended_bytes (ModemTook d count) events place sound at
  dropped_bytes (Now time ∷ events) place sound at = ended_bytes (Now time) events place sound at
