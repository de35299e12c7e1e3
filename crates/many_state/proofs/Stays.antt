-- Whoever is there stays where no core has fewer.
use Rattle.std.proofs.Common.{◌≡◌, ℕ, ◌<◌, ◌≤◌, Bool, true, false, not, cond, ◌||◌, ◌==◌, List, [], ◌∷◌, ◌++◌, length, refl, ap, sym, ◌∙◌, subst, arith, append-nil}
use Rattle.std.proofs.lemmas.List.{length-map}
use Rattle.std.specs.List.{AllByRecursion, IsDistinct}
use Rattle.std.proofs.lemmas.List.Filters.{length-filter_both}
use Rattle.connections.specs.Table.{Connection}
use Rattle.proxy_history.specs.Events.{Event}
use Rattle.proxy_history.specs.Events as one
use Rattle.proxy_history.specs.Connections.{present, contains, is_present, without}
use Rattle.proxy_history.specs.History.{history}
use Rattle.proxy_history.specs.Adding.{IsOrderly}
use Rattle.proxy_history.specs.Facts.{Fact, Request}
use Rattle.proxy_state.specs.State.{Core, Handlers}
use Rattle.proxy_state.specs.Stands.{Kept}
use Rattle.proxy_state.specs.Stands as proxy
use Rattle.proxy_state.proofs.Waiting.{names_are}
use Rattle.many_history.specs.Events.{ManyEvent}
use Rattle.many_history.specs.Devices.{Devices, HasDevices}
use Rattle.many_history.specs.Many.{Place, Undecided, At, Seat, parts, refused, there, ended, is_there_at, names_in, own_after, many}
use Rattle.many_history.specs.Coming.{MayCome}
use Rattle.many_history.specs.Seated.{IsOfDevice}
use Rattle.many_history.proofs.Places.{Hold, seats_are_of_devices}
use Rattle.many_history.proofs.Seated.{joins, came_from}
use Rattle.many_history.proofs.There.{seats_are_there}
use Rattle.many_state.specs.Core.{ManyCore, is_there_in, core_behind, cores_after, seats_before, greatest_after, met, step, Stands}
use Rattle.many_state.specs.Laws.{IsProxysCore, AreAll, is_joining, NobodyJoins, MovesNobody}
use Rattle.many_state.proofs.Same.{got, each_has_as_many}
use Rattle.many_state.proofs.Steps.{parts_are, core_stands, cores_stand, there_is}
use Rattle.many_state.proofs.Room.{found_once, kept_apart, no_more, each_in, not_not}

-- ---- two lists of names ----

apart : (z : ℕ) (xs : List ℕ) → contains z xs ≡ false → AllByRecursion (λ x. (z == x) ≡ false) xs
apart z [] none = tt
apart z (x ∷ xs) none = by (apart z xs) (z == x) refl none
  where
    by : (contains z xs ≡ false → AllByRecursion (λ x. (z == x) ≡ false) xs) → (b : Bool) → (z == x) ≡ b → (b || contains z xs) ≡ false → AllByRecursion (λ x. (z == x) ≡ false) (x ∷ xs)
    by rest true here is = absurd (cc)
    by rest false other is = (other, rest is)

-- where as many are left, all are
all_are_left : (z : ℕ) (xs ys : List ℕ) → IsDistinct (λ c d. c == d) xs → AllByRecursion (λ x. contains x ys ≡ true) xs → length ys ≤ length xs → contains z ys ≡ true → contains z xs ≡ true
all_are_left z xs ys distinct are as_many is = by (contains z xs) refl
  where
    by : (b : Bool) → contains z xs ≡ b → contains z xs ≡ true
    by true e = e
    by false e =
        absurd (omega (arith, as_many, no_more xs (without z ys) distinct (kept_apart z ys xs (apart z xs e) are), length-filter_both (λ y. not (z == y)) (λ y. z == y) (λ y. sym (not_not (z == y))) ys, found_once z ys is))

no_joining : (name : ℕ) (event : Event) → is_joining event ≡ false → joins name event ≡ false
no_joining name (one.Joined c) is = absurd (cc)
no_joining name (one.Piece c bytes) is = refl
no_joining name (one.Left c) is = refl
no_joining name (one.Took c count) is = refl
no_joining name (one.ModemPiece bytes) is = refl
no_joining name one.ModemGone is = refl
no_joining name one.ModemBack is = refl
no_joining name (one.ModemTook count) is = refl
no_joining name (one.Now time) is = refl

none_joins : (name : ℕ) (part : List Event) → NobodyJoins part → AllByRecursion (λ event. joins name event ≡ false) part
none_joins name [] all = tt
none_joins name (event ∷ part) all = (no_joining name event all.0, none_joins name part all.1)

-- ---- seats ----

module _ (P Q R : Place → Type 0) (both : (place : Place) → P place → Q place → R place) where
  hold_both : (seats : List Seat) → Hold P seats → Hold Q seats → Hold R seats
  hold_both [] p q = tt
  hold_both (seat ∷ seats) p q = (both seat.place p.0 q.0, hold_both seats p.1 q.1)

all_stay : (f : Place → Bool) (seats : List Seat) → Hold (λ place. f place ≡ true) seats → there f seats ≡ seats
all_stay f [] all = refl
all_stay f (seat ∷ seats) all = ap (λ (b : Bool). cond b (seat ∷ there f seats) (there f seats)) all.0 ∙ ap (λ (l : List Seat). seat ∷ l) (all_stay f seats all.1)

none_ends : (f : Place → Bool) (seats : List Seat) → Hold (λ place. f place ≡ true) seats → ended f seats ≡ []
none_ends f [] all = refl
none_ends f (seat ∷ seats) all = ap (λ (b : Bool). cond (not b) (seat ∷ ended f seats) (ended f seats)) all.0 ∙ none_ends f seats all.1

-- ---- all devices ----

module _ {Known T S : Type 0} (s : Devices Known) (k : ℕ → Kept Known T S) (h : Handlers T S) (H : HasDevices s) (P : IsProxysCore s k h) (Asks : ℕ → Request → List Fact → Type 0) (O : (d : ℕ) → IsOrderly (s.protocol d) (Asks d))
    (event : ManyEvent) (events : List ManyEvent) (x : ManyCore T S) (may : MayCome s event events) (stands : Stands s k events x) (moves : MovesNobody s h event x) where
  abbrev behind : ℕ → List Event
  behind = own_after s event (many s events)

  abbrev cores : List (Core T S)
  cores = cores_after s h event x

  stays_at : (d name : ℕ) → d < s.count → is_present name (history (s.protocol d) ((many s events).own d)) ≡ true → is_present name (history (s.protocol d) (behind d)) ≡ true
  stays_at d name of is =
      let m = many s events in
      let p = s.protocol d in
      let core = got x.cores d (omega (arith, of, stands.count)) in
      let was : proxy.Stands p (k d) (m.own d) core.0 = (stands.cores d core.0 core.1).stands in
      let next : proxy.Stands p (k d) (behind d) (core_behind s h event x d core.0) = (core_stands s k h H P event events x may stands d core.0 core.1).stands in
      let part : List Event = parts s event m.seats (names_in m.own) d in
      let none : NobodyJoins part = subst NobodyJoins (parts_are s k h H P event events x stands d) (moves.joins d) in
      let before : List ℕ = present (history p (m.own d)) in
      let after : List ℕ = present (history p (behind d)) in
      let come : AllByRecursion (λ c. contains c before ≡ true) after = each_in (λ c. contains c before ≡ true) after (λ c there. came_from p (Asks d) (O d) c part (m.own d) (none_joins c part none) there) in
      let few : length core.0.state.table.present ≡ length before = sym (length-map core.0.state.table.present (λ (l : Connection T). l.name)) ∙ ap length (names_are p (k d) (m.own d) core.0 was) in
      let many : length (core_behind s h event x d core.0).state.table.present ≡ length after =
      sym (length-map (core_behind s h event x d core.0).state.table.present (λ (l : Connection T). l.name)) ∙ ap length (names_are p (k d) (behind d) (core_behind s h event x d core.0) next)
      in
      all_are_left name after before next.holds.names.distinct come (omega (arith, moves.as_many d core.0 core.1, few, many)) is

  stays : (place : Place) → IsOfDevice s.count place → is_there_at s (many s events).own place ≡ true → is_there_in cores place ≡ true
  stays (Undecided bytes) of is = refl
  stays (At d name) of is =
      there_is s k behind cores (each_has_as_many (core_behind s h event x) x.cores ∙ stands.count) (cores_stand s k h H P event events x may stands) (At d name) of ∙ stays_at d name of is

  all_there : AreAll (is_there_in cores) x.seats
  all_there =
      subst (AreAll (is_there_in cores)) (sym stands.seats)
      (hold_both (IsOfDevice s.count) (λ place. is_there_at s (many s events).own place ≡ true) (λ place. is_there_in cores place ≡ true) stays (many s events).seats (seats_are_of_devices s H events) (seats_are_there s events))

  pub all_stay_there : step s h event x ≡ met s h event x
  all_stay_there =
      let all : AreAll (is_there_in cores) (seats_before s h event x) = moves.places (is_there_in cores) (λ bytes. refl) all_there in
      let refused_too : List Seat = refused s event x.seats in
      let Behind : List Seat → List Seat → ManyCore T S = λ seats dropped. record { cores = cores; seats = seats; dropped = dropped; greatest = greatest_after event x.greatest } in
      ap (λ (l : List Seat). Behind l (refused_too ++ ended (is_there_in cores) (seats_before s h event x))) (all_stay (is_there_in cores) (seats_before s h event x) all)
      ∙ ap (λ (l : List Seat). Behind (seats_before s h event x) (refused_too ++ l)) (none_ends (is_there_in cores) (seats_before s h event x) all)
      ∙ ap (λ (l : List Seat). Behind (seats_before s h event x) l) (append-nil refused_too)
