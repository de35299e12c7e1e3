-- One device's proxy: who stays there by an event, and who is dropped by it. Lists of events and of facts have the newest first.
use Rattle.std.proofs.Common.{◌≡◌, ℕ, ◌<◌, Bool, true, false, not, ◌&&◌, ◌||◌, ◌==◌, List, [], ◌∷◌, ◌++◌, length, nat_lt, refl, ap, sym, ◌∙◌, subst, arith, append_assoc, append-nil, if◌then◌else◌}
use Rattle.std.specs.List.{AllByRecursion}
use Rattle.std.proofs.lemmas.Bool.{eqb-true, eq-eqb}
use Rattle.std.proofs.lemmas.Bool.Decides.{nat_tests}
use Rattle.framing.specs.Framing.{IsKept}
use Rattle.proxy_history.specs.Events.{Event, Joined, Piece, Left, Took, is_anothers}
use Rattle.proxy_history.specs.Streams.{stream}
use Rattle.proxy_history.specs.Items.{Item, Joins, Says, GoesBad, Leaves, Takes, items_of}
use Rattle.proxy_history.specs.Facts.{Fact, Request, EventBegan, Leaving, NotAdmitted, BadStream, NoRoom, Admitted, Ended}
use Rattle.proxy_history.specs.Connections.{present, dropped, is_present, contains, without}
use Rattle.proxy_history.specs.Noting.{end}
use Rattle.proxy_history.specs.Protocol.{Protocol}
use Rattle.proxy_history.specs.History.{history, add_all}
use Rattle.proxy_history.specs.Adding.{MayAdd, MayFinish, IsOrderly}
use Rattle.proxy_history.proofs.Lists.{contains_kept}
use Rattle.proxy_history.proofs.Walk.{IsOf, kept_by_event, kept_at_end, sound_items, begun_is_sound}
use Rattle.many_history.specs.Many.{in_pieces, says, arrival}
use Rattle.many_history.proofs.Meeting.{all_is_said}
use Rattle.many_dropped.proofs.Open.{IsOpen, front_is_open, no_items}

-- ---- names in lists ----

found_pushed : (name c : ℕ) (xs : List ℕ) → contains name xs ≡ true → contains name (xs ++ c ∷ []) ≡ true
found_pushed name c [] is = absurd (cc)
found_pushed name c (x ∷ xs) is = by (found_pushed name c xs) (name == x) is
  where
    by : (contains name xs ≡ true → contains name (xs ++ c ∷ []) ≡ true) → (b : Bool) → (b || contains name xs) ≡ true → (b || contains name (xs ++ c ∷ [])) ≡ true
    by rest true e = refl
    by rest false e = rest e

last_found : (name : ℕ) (xs : List ℕ) → contains name (xs ++ name ∷ []) ≡ true
last_found name [] = ap (λ (b : Bool). b || false) (eq-eqb name name refl)
last_found name (x ∷ xs) = by (last_found name xs) (name == x)
  where
    by : contains name (xs ++ name ∷ []) ≡ true → (b : Bool) → (b || contains name (xs ++ name ∷ [])) ≡ true
    by rest true = refl
    by rest false = rest

found_without : (name c : ℕ) (xs : List ℕ) → (c == name) ≡ false → contains name xs ≡ true → contains name (without c xs) ≡ true
found_without name c xs other is = contains_kept name (λ y. not (c == y)) xs ∙ ap (λ (b : Bool). b && not (c == name)) is ∙ ap not other

-- ---- facts ----

-- the fact ends this connection
abbrev ends : ℕ → Fact → Bool
ends name (Ended c why) = c == name
ends name _ = false

-- it ends because it went by itself, or an event begins
abbrev closes : ℕ → Fact → Bool
closes name (Ended c Leaving) = c == name
closes name EventBegan = true
closes name _ = false

-- it is there, or was dropped in the last event
abbrev IsOwed : ℕ → List Fact → Type 0
IsOwed name past = (contains name (present past) || contains name (dropped past)) ≡ true

stays_there : (name : ℕ) (fact : Fact) (past : List Fact) → ends name fact ≡ false → contains name (present past) ≡ true → contains name (present (fact ∷ past)) ≡ true
unfolding present
stays_there name (Admitted c) past other is = found_pushed name c (present past) is
stays_there name (Ended c why) past other is = found_without name c (present past) other is
stays_there name _ past other is = is

either_first : (a b : Bool) → a ≡ true → (a || b) ≡ true
either_first true b is = refl
either_first false b is = absurd (cc)

either_second : (a b : Bool) → b ≡ true → (a || b) ≡ true
either_second true b is = refl
either_second false b is = is

more_there : (name c : ℕ) (xs ys : List ℕ) → (contains name xs || contains name ys) ≡ true → (contains name (xs ++ c ∷ []) || contains name ys) ≡ true
more_there name c xs ys is = by (contains name xs) refl is
  where
    by : (b : Bool) → contains name xs ≡ b → (b || contains name ys) ≡ true → (contains name (xs ++ c ∷ []) || contains name ys) ≡ true
    by true here e = either_first (contains name (xs ++ c ∷ [])) (contains name ys) (found_pushed name c xs here)
    by false here e = either_second (contains name (xs ++ c ∷ [])) (contains name ys) e

less_there : (name c : ℕ) (xs ys : List ℕ) → (c == name) ≡ false → (contains name xs || contains name ys) ≡ true → (contains name (without c xs) || contains name ys) ≡ true
less_there name c xs ys other is = by (contains name xs) refl is
  where
    by : (b : Bool) → contains name xs ≡ b → (b || contains name ys) ≡ true → (contains name (without c xs) || contains name ys) ≡ true
    by true here e = either_first (contains name (without c xs)) (contains name ys) (found_without name c xs other here)
    by false here e = either_second (contains name (without c xs)) (contains name ys) e

moved_there : (name c : ℕ) (xs ys : List ℕ) → (contains name xs || contains name ys) ≡ true → (contains name (without c xs) || contains name (ys ++ c ∷ [])) ≡ true
moved_there name c xs ys is = by (c == name) refl
  where
    other : (contains name xs || contains name ys) ≡ true → (c == name) ≡ false → (b : Bool) → contains name xs ≡ b → (contains name (without c xs) || contains name (ys ++ c ∷ [])) ≡ true
    other e differs true here = either_first (contains name (without c xs)) (contains name (ys ++ c ∷ [])) (found_without name c xs differs here)
    other e differs false here = either_second (contains name (without c xs)) (contains name (ys ++ c ∷ [])) (found_pushed name c ys (sym (ap (λ (b : Bool). b || contains name ys) here) ∙ e))

    by : (b : Bool) → (c == name) ≡ b → (contains name (without c xs) || contains name (ys ++ c ∷ [])) ≡ true
    by true same = either_second (contains name (without c xs)) (contains name (ys ++ c ∷ [])) (ap (λ (n : ℕ). contains name (ys ++ n ∷ [])) (eqb-true c name same) ∙ last_found name ys)
    by false differs = other is differs (contains name xs) refl

stays_owed : (name : ℕ) (fact : Fact) (past : List Fact) → closes name fact ≡ false → IsOwed name past → IsOwed name (fact ∷ past)
unfolding present dropped
stays_owed name EventBegan past other is = absurd (cc)
stays_owed name (Admitted c) past other is = more_there name c (present past) (dropped past) is
stays_owed name (Ended c Leaving) past other is = less_there name c (present past) (dropped past) other is
stays_owed name (Ended c NotAdmitted) past other is = moved_there name c (present past) (dropped past) is
stays_owed name (Ended c BadStream) past other is = moved_there name c (present past) (dropped past) is
stays_owed name (Ended c NoRoom) past other is = moved_there name c (present past) (dropped past) is
stays_owed name _ past other is = is

-- ---- the facts of an event ----

-- the client leaves by itself
abbrev pub leaves : ℕ → Event → Bool
leaves name (Left c) = c == name
leaves name _ = false

not_true : (b : Bool) → not b ≡ true → b ≡ false
not_true true is = absurd (cc)
not_true false is = refl

item_ends : (name : ℕ) (event : Event) (item : Item) (fact : Fact) (past : List Fact) → is_anothers name event ≡ true → IsOf event item → MayAdd item fact past → ends name fact ≡ false
item_ends name (Joined c) (Joins d) (Ended e NotAdmitted) past other of may = ap (λ (n : ℕ). n == name) (may ∙ of) ∙ not_true (c == name) other
item_ends name (Joined c) (Joins d) (Ended e why) past other of may = absurd may
item_ends name (Joined c) _ (Ended e why) past other of may = absurd of
item_ends name (Piece c bytes) (Says d m) (Ended e NoRoom) past other of may = ap (λ (n : ℕ). n == name) (may ∙ of) ∙ not_true (c == name) other
item_ends name (Piece c bytes) (Says d m) (Ended e why) past other of may = absurd may
item_ends name (Piece c bytes) (GoesBad d) (Ended e BadStream) past other of may = ap (λ (n : ℕ). n == name) (may ∙ of) ∙ not_true (c == name) other
item_ends name (Piece c bytes) (GoesBad d) (Ended e why) past other of may = absurd may
item_ends name (Piece c bytes) _ (Ended e why) past other of may = absurd of
item_ends name (Left c) (Leaves d) (Ended e Leaving) past other of may = ap (λ (n : ℕ). n == name) (may ∙ of) ∙ not_true (c == name) other
item_ends name (Left c) (Leaves d) (Ended e why) past other of may = absurd may
item_ends name (Left c) _ (Ended e why) past other of may = absurd of
item_ends name (Took c count) (Takes d taken) (Ended e why) past other of may = absurd may
item_ends name (Took c count) _ (Ended e why) past other of may = absurd of
item_ends name _ item (Ended e why) past other of may = absurd (cc)
item_ends name event item _ past other of may = refl

item_closes : (name : ℕ) (event : Event) (item : Item) (fact : Fact) (past : List Fact) → leaves name event ≡ false → IsOf event item → MayAdd item fact past → closes name fact ≡ false
item_closes name (Left c) (Leaves d) (Ended e Leaving) past other of may = ap (λ (n : ℕ). n == name) (may ∙ of) ∙ other
item_closes name _ (Leaves d) (Ended e Leaving) past other of may = absurd of
item_closes name event _ (Ended e Leaving) past other of may = absurd may
item_closes name event _ EventBegan past other of may = absurd may
item_closes name event item _ past other of may = refl

finish_ends : (name : ℕ) (fact : Fact) (past : List Fact) → MayFinish fact past → ends name fact ≡ false
finish_ends name (Ended e why) past may = absurd may
finish_ends name _ past may = refl

finish_closes : (name : ℕ) (fact : Fact) (past : List Fact) → MayFinish fact past → closes name fact ≡ false
finish_closes name (Ended e why) past may = absurd may
finish_closes name EventBegan past may = absurd may
finish_closes name _ past may = refl

-- ---- events ----

module _ {Known : Type 0} (p : Protocol Known) (Asks : Request → List Fact → Type 0) (O : IsOrderly p Asks) (name : ℕ) where
  abbrev pub Is : List Event → Type 0
  Is events = is_present name (history p events) ≡ true

  -- by what another does it stays
  pub stays_by_another : (event : Event) (events : List Event) → is_anothers name event ≡ true → Is events → Is (event ∷ events)
  unfolding present
  stays_by_another event events other is =
      kept_by_event p Asks O (λ past. contains name (present past) ≡ true) event
      (λ item of fact past follows may asked there. stays_there name fact past (item_ends name event item fact past other of may) there)
      (λ fact past follows may asked there. stays_there name fact past (finish_ends name fact past may) there)
      events is

  pub stays_by_others : (part events : List Event) → AllByRecursion (λ event. is_anothers name event ≡ true) part → Is events → Is (part ++ events)
  stays_by_others [] events others is = is
  stays_by_others (event ∷ part) events others is = stays_by_another event (part ++ events) others.0 (stays_by_others part events others.1 is)

  -- where it goes, and not by itself, it is dropped
  pub dropped_or_there : (event : Event) (events : List Event) → leaves name event ≡ false → Is events → is_present name (history p (event ∷ events)) ≡ false → contains name (dropped (history p (event ∷ events))) ≡ true
  unfolding present dropped
  dropped_or_there event events other is gone =
      let owed : IsOwed name (history p (event ∷ events)) =
      kept_by_event p Asks O (IsOwed name) event
      (λ item of fact past follows may asked there. stays_owed name fact past (item_closes name event item fact past other of may) there)
      (λ fact past follows may asked there. stays_owed name fact past (finish_closes name fact past may) there)
      events (either_first (contains name (present (history p events))) false is)
      in
      sym (ap (λ (b : Bool). b || contains name (dropped (history p (event ∷ events)))) gone) ∙ owed

  -- ---- a client that arrives ----

  pub joined_is_there : (events : List Event) → length (present (history p events)) < p.limits.connections → Is (Joined name ∷ events)
  unfolding history add_all present
  joined_is_there events room =
      let begun : List Fact = EventBegan ∷ history p events in
      let lets_in : nat_lt (length (present (history p events))) p.limits.connections ≡ true = grind (arith, nat_tests, room) in
      kept_at_end p Asks O (λ past. contains name (present past) ≡ true)
      (λ fact past follows may asked there. stays_there name fact past (finish_ends name fact past may) there)
      (add_all p (items_of p events (Joined name)) begun) (sound_items p Asks O (items_of p events (Joined name)) begun (begun_is_sound p Asks O events))
      (ap (λ (b : Bool). contains name (present (if b then Admitted name ∷ begun else end name NotAdmitted begun))) lets_in ∙ last_found name (present (history p events)))

  module _ (kept : (front more : List ℕ) → IsKept (p.size front) (p.size (front ++ more))) where
    -- a piece that brings nothing
    stays_silently : (piece : List ℕ) (events : List Event) → IsOpen p.size (stream name events ++ piece) → Is events → Is (Piece name piece ∷ events)
    unfolding history add_all present
    stays_silently piece events whole is =
        let begun : List Fact = EventBegan ∷ history p events in
        let items : List Item = items_of p events (Piece name piece) in
        kept_at_end p Asks O (λ past. contains name (present past) ≡ true)
        (λ fact past follows may asked there. stays_there name fact past (finish_ends name fact past may) there)
        (add_all p items begun) (sound_items p Asks O items begun (begun_is_sound p Asks O events))
        (ap (λ (l : List Item). contains name (present (add_all p l begun))) (no_items p.size kept name (stream name events) piece whole) ∙ is)

    piece_said : (piece : List ℕ) (events : List Event) → stream name (Piece name piece ∷ events) ≡ stream name events ++ piece
    unfolding stream
    piece_said piece events = ap (λ (b : Bool). if b then stream name events ++ piece else stream name events) (eq-eqb name name refl)

    said_behind : (pieces : List (List ℕ)) (said events : List Event) → (more : List ℕ) × (stream name (says name pieces said ++ events) ≡ stream name (said ++ events) ++ more)
    unfolding says
    said_behind [] said events = ([], sym (append-nil (stream name (said ++ events))))
    said_behind (piece ∷ pieces) said events =
        let later = said_behind pieces (Piece name piece ∷ said) events in
        (piece ++ later.0, later.1 ∙ ap (λ (l : List ℕ). l ++ later.0) (piece_said piece (said ++ events)) ∙ append_assoc (stream name (said ++ events)) piece later.0)

    stays_saying : (pieces : List (List ℕ)) (said events : List Event) → IsOpen p.size (stream name (says name pieces said ++ events)) → Is (said ++ events) → Is (says name pieces said ++ events)
    unfolding says
    stays_saying [] said events whole is = is
    stays_saying (piece ∷ pieces) said events whole is =
        let later = said_behind pieces (Piece name piece ∷ said) events in
        let front : IsOpen p.size (stream name (said ++ events) ++ piece) =
        front_is_open p.size kept (stream name (said ++ events) ++ piece) later.0 (subst (IsOpen p.size) (later.1 ∙ ap (λ (l : List ℕ). l ++ later.0) (piece_said piece (said ++ events))) whole)
        in
        stays_saying pieces (Piece name piece ∷ said) events whole (stays_silently piece (said ++ events) front is)

    -- the client that arrives is there when it says the last piece, so it is there behind it, or was dropped by it
    pub arrived_or_dropped : (before piece : List ℕ) (events : List Event) → length (present (history p events)) < p.limits.connections → IsOpen p.size before
        → is_present name (history p (arrival name before piece ++ events)) ≡ false → contains name (dropped (history p (arrival name before piece ++ events))) ≡ true
    arrived_or_dropped before piece events room whole gone =
        let said : List Event = says name (in_pieces before) (Joined name ∷ []) ++ events in
        let all : stream name said ≡ before = sym (append-nil (stream name said)) ∙ sym (piece_said [] said) ∙ all_is_said name before [] events ∙ append-nil before in
        dropped_or_there (Piece name piece) said refl (stays_saying (in_pieces before) (Joined name ∷ []) events (subst (IsOpen p.size) (sym all) whole) (joined_is_there events room)) gone

-- all of an arrival is another's
says_others : (name k : ℕ) (pieces : List (List ℕ)) (said : List Event) → (k == name) ≡ false → AllByRecursion (λ event. is_anothers name event ≡ true) said → AllByRecursion (λ event. is_anothers name event ≡ true) (says k pieces said)
unfolding says
says_others name k [] said other all = all
says_others name k (piece ∷ pieces) said other all = says_others name k pieces (Piece k piece ∷ said) other (ap not other, all)

pub arrival_is_anothers : (name k : ℕ) (before piece : List ℕ) → (k == name) ≡ false → AllByRecursion (λ event. is_anothers name event ≡ true) (arrival k before piece)
arrival_is_anothers name k before piece other = (ap not other, says_others name k (in_pieces before) (Joined k ∷ []) other (ap not other, tt))
