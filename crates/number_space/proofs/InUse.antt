-- Rows by their places and by their numbers.
use Rattle.std.proofs.Common.{◌⊎◌, ⊎_elim, inl, inr, Any, length-append, ◌≡◌, ℕ, zero, suc, ◌+◌, ◌<◌, ◌≤◌, min, Bool, true, false, not, cond, ◌&&◌, List, [], ◌∷◌, ◌++◌, length, map, filter, get_or, set, take, take_all, subst, refl, ap, sym, ◌∙◌, arith, Some, None, find, ◌==◌, nat_le, nat_lt}
use Rattle.std.specs.List.{AllByRecursion, IsDistinct, position, position_or_len, remove}
use Rattle.std.proofs.lemmas.Bool.Decides.{nat_tests}
use Rattle.std.proofs.lemmas.Bool.{eqb-true, or_parts, and_parts}
use Rattle.std.proofs.lemmas.List.Quantifiers.{position-Some, Any-push}
use Rattle.std.proofs.lemmas.List.{take_more, get_or_append_left}
use Rattle.std.proofs.lemmas.List.Elements.{All-head, All-tail, All-push, All-weaker, All-map, All-more}
use Rattle.proxy_history.proofs.Numbers.{free_used}
use Rattle.proxy_history.specs.Connections.{contains}
use Rattle.proxy_history.specs.Requests.{following, free_from}
use Rattle.number_space.specs.declared.space.Row.{Row}
use Rattle.number_space.specs.Table.{numbers, without, settled_where, settles_number, is_due, IsPendingUntil, NoneIsDueBefore, StandsAt}

-- ---- the first that passes a test ----

-- a filter that drops nothing
pub kept_whole : {X : Type 0} (p : X → Bool) (xs : List X) → find p xs ≡ None → filter (λ x. not (p x)) xs ≡ xs
kept_whole p [] e = refl
kept_whole p (x ∷ xs) e =
    let step : (b : Bool) → cond b (Some x) (find p xs) ≡ None → cond (not b) (x ∷ filter (λ y. not (p y)) xs) (filter (λ y. not (p y)) xs) ≡ x ∷ xs =
    λ b. elim b as (λ b. cond b (Some x) (find p xs) ≡ None → cond (not b) (x ∷ filter (λ y. not (p y)) xs) (filter (λ y. not (p y)) xs) ≡ x ∷ xs) [
      | true ↦ λ e. absurd (cc)
      | false ↦ λ e. ap (λ t. x ∷ t) (kept_whole p xs e)
    ]
    in step (p x) e

first_or_later : (a b : ℕ) → (a ≤ b) ⊎ (b < a)
first_or_later a b = grind arith

one_more : (i : ℕ) → 1 + i ≡ suc i
one_more i = omega arith

-- the first so many mapped
pub map_front : {X : Type 0} → (X → X) → ℕ → List X → List X
map_front f zero xs = xs
map_front f (suc i) [] = []
map_front f (suc i) (x ∷ xs) = f x ∷ map_front f i xs

module _ {X : Type 0} (f : X → X) where
  pub map_front-none : (xs : List X) → map_front f 0 xs ≡ xs
  unfolding map_front
  map_front-none xs = refl

  pub length-map_front : (i : ℕ) (xs : List X) → length (map_front f i xs) ≡ length xs
  unfolding map_front
  length-map_front zero xs = refl
  length-map_front (suc i) [] = refl
  length-map_front (suc i) (x ∷ xs) = ap suc (length-map_front i xs)

  front_set : (i : ℕ) (xs : List X) (d : X) → i < length xs → set (map_front f i xs) i (f (get_or (map_front f i xs) i d)) ≡ map_front f (suc i) xs
  unfolding map_front
  front_set i [] d within = absurd (omega arith)
  front_set zero (x ∷ xs) d within = refl
  front_set (suc i) (x ∷ xs) d within = ap (λ t. f x ∷ t) (front_set i xs d (omega arith))

  pub map_front-more : (i : ℕ) (xs : List X) (d : X) → i < length xs → set (map_front f i xs) i (f (get_or (map_front f i xs) i d)) ≡ map_front f (i + 1) xs
  map_front-more i xs d within = front_set i xs d within ∙ ap (λ k. map_front f k xs) (omega arith)

  -- the one behind them is mapped too
  pub map_front-same : (i : ℕ) (xs ys : List X) (x : X) → i < length xs → ys ≡ map_front f i xs → x ≡ get_or ys i x → set ys i (f x) ≡ map_front f (i + 1) xs
  map_front-same i xs ys x within front is =
      ap (λ (y : X). set ys i (f y)) is ∙ ap (λ (l : List X). set l i (f (get_or l i x))) front ∙ map_front-more i xs x within

  pub map_front-all : (i : ℕ) (xs : List X) → length xs ≤ i → map_front f i xs ≡ map f xs
  unfolding map_front
  map_front-all zero [] all = refl
  map_front-all zero (x ∷ xs) all = absurd (omega arith)
  map_front-all (suc i) [] all = refl
  map_front-all (suc i) (x ∷ xs) all = ap (λ t. f x ∷ t) (map_front-all i xs (omega arith))

-- ---- the first free number ----

pub free_stops : (steps top : ℕ) (used : List ℕ) (n : ℕ) → contains n used ≡ false → free_from steps top used n ≡ n
unfolding free_from
free_stops zero top used n free = refl
free_stops (suc steps) top used n free = rw (free, free_from) refl

pub free_goes_on : (steps fewer top : ℕ) (used : List ℕ) (n : ℕ) → steps ≡ fewer + 1 → contains n used ≡ true → free_from steps top used n ≡ free_from fewer top used (following top n)
free_goes_on steps fewer top used n more taken = let suc_is : steps ≡ suc fewer = omega arith in ap (λ k. free_from k top used n) suc_is ∙ free_used fewer top used n taken

pub free_ends : (steps top : ℕ) (used : List ℕ) (n : ℕ) → steps ≡ 0 → free_from steps top used n ≡ n
unfolding free_from
free_ends steps top used n none = ap (λ k. free_from k top used n) none

module _ {T : Type 0} where
  -- ---- the row of a number, where no two numbers are the same ----

  abbrev pub AreDistinct : List (Row T) → Type 0
  AreDistinct rows = IsDistinct (λ m n. m == n) (numbers rows)

  pub is_at : (number : ℕ) (rows : List (Row T)) (i : ℕ) → position (λ r. number == r.number) rows ≡ Some i → (d : Row T) → StandsAt number rows i
  is_at number rows i e d = record {
    within = (position-Some (λ r. number == r.number) rows i d e).0;
    named = λ d. (position-Some (λ r. number == r.number) rows i d e).1;
  }

  tail_at : (number : ℕ) (row : Row T) (rows : List (Row T)) (i : ℕ) → StandsAt number (row ∷ rows) (suc i) → StandsAt number rows i
  tail_at number row rows i at = record { within = omega (arith, at.within); named = at.named }

  -- a number that stands behind differs from the first
  apart_at : (first number : ℕ) (rows : List (Row T)) (i : ℕ) → AllByRecursion (λ m. (first == m) ≡ false) (numbers rows) → StandsAt number rows i → (number == first) ≡ false
  apart_at first number [] i apart at = absurd (omega (arith, at.within))
  apart_at first number (row ∷ rows) zero apart at =
      let same : number ≡ row.number = eqb-true number row.number (at.named row) in
      let differs : (first == row.number) ≡ false = apart.0 in grind (arith, nat_tests, same, differs)
  apart_at first number (row ∷ rows) (suc i) apart at = apart_at first number rows i apart.1 (tail_at number row rows i at)

  place_at : (number : ℕ) (rows : List (Row T)) (i : ℕ) → AreDistinct rows → StandsAt number rows i → position_or_len (λ r. number == r.number) rows ≡ i
  unfolding IsDistinct
  place_at number [] i distinct at = absurd (omega (arith, at.within))
  place_at number (row ∷ rows) zero distinct at = rw (at.named row) refl
  place_at number (row ∷ rows) (suc i) distinct at =
      let behind = tail_at number row rows i at in
      rw (apart_at row.number number rows i distinct.0 behind) (ap (λ (k : ℕ). 1 + k) (place_at number rows i distinct.1 behind) ∙ one_more i)

  pub position_at : (number : ℕ) (rows : List (Row T)) (i : ℕ) → AreDistinct rows → StandsAt number rows i → Some i ≡ position (λ r. number == r.number) rows
  position_at number rows i distinct at =
      let place : position_or_len (λ r. number == r.number) rows ≡ i = place_at number rows i distinct at in
      let test : nat_lt (position_or_len (λ r. number == r.number) rows) (length rows) ≡ true = let within : position_or_len (λ r. number == r.number) rows < length rows = omega (arith, place, at.within) in grind (arith, nat_tests, within) in
      sym (ap (λ b. cond b (Some (position_or_len (λ r. number == r.number) rows)) None) test ∙ ap Some place)

  -- what a map or a filter does to the rows behind the first, which have other numbers
  settles_others : (number : ℕ) (rows : List (Row T)) → AllByRecursion (λ m. (number == m) ≡ false) (numbers rows) → settles_number number rows ≡ rows
  settles_others number [] apart = refl
  settles_others number (row ∷ rows) apart = rw (apart.0, settles_others number rows apart.1) refl

  without_others : (number : ℕ) (rows : List (Row T)) → AllByRecursion (λ m. (number == m) ≡ false) (numbers rows) → without number rows ≡ rows
  without_others number [] apart = refl
  without_others number (row ∷ rows) apart = rw (apart.0, without_others number rows apart.1) refl

  apart_from : (number first : ℕ) (rows : List (Row T)) → number ≡ first → AllByRecursion (λ m. (first == m) ≡ false) (numbers rows) → AllByRecursion (λ m. (number == m) ≡ false) (numbers rows)
  apart_from number first [] same apart = tt
  apart_from number first (row ∷ rows) same apart = (ap (λ (m : ℕ). m == row.number) same ∙ apart.0, apart_from number first rows same apart.1)

  pub without_at : (number : ℕ) (rows : List (Row T)) (i : ℕ) → AreDistinct rows → StandsAt number rows i → without number rows ≡ remove rows i
  unfolding IsDistinct
  without_at number [] i distinct at = absurd (omega (arith, at.within))
  without_at number (row ∷ rows) zero distinct at =
      rw (at.named row) (without_others number rows (apart_from number row.number rows (eqb-true number row.number (at.named row)) distinct.0))
  without_at number (row ∷ rows) (suc i) distinct at =
      let behind = tail_at number row rows i at in
      rw (apart_at row.number number rows i distinct.0 behind) (ap (λ t. row ∷ t) (without_at number rows i distinct.1 behind))

  pub settles_at : (number : ℕ) (rows : List (Row T)) (i : ℕ) (d : Row T) → AreDistinct rows → StandsAt number rows i → settles_number number rows ≡ set rows i (record (get_or rows i d) { pending = false })
  unfolding IsDistinct
  settles_at number [] i d distinct at = absurd (omega (arith, at.within))
  settles_at number (row ∷ rows) zero d distinct at =
      rw (at.named row) (ap (λ t. record row { pending = false } ∷ t) (settles_others number rows (apart_from number row.number rows (eqb-true number row.number (at.named row)) distinct.0)))
  settles_at number (row ∷ rows) (suc i) d distinct at =
      let behind = tail_at number row rows i at in
      rw (apart_at row.number number rows i distinct.0 behind) (ap (λ t. row ∷ t) (settles_at number rows i d distinct.1 behind))

  -- ---- numbers stay distinct ----

  apart_filter : (first : ℕ) (p : Row T → Bool) (rows : List (Row T)) → AllByRecursion (λ m. (first == m) ≡ false) (numbers rows) → AllByRecursion (λ m. (first == m) ≡ false) (numbers (filter p rows))
  apart_filter first p [] apart = tt
  apart_filter first p (row ∷ rows) apart =
      elim (p row) as (λ b. AllByRecursion (λ m. (first == m) ≡ false) (numbers (cond b (row ∷ filter p rows) (filter p rows)))) [
        | true ↦ (apart.0, apart_filter first p rows apart.1)
        | false ↦ apart_filter first p rows apart.1
      ]

  pub distinct_filter : (p : Row T → Bool) (rows : List (Row T)) → AreDistinct rows → AreDistinct (filter p rows)
  unfolding IsDistinct
  distinct_filter p [] distinct = tt
  distinct_filter p (row ∷ rows) distinct =
      elim (p row) as (λ b. AreDistinct (cond b (row ∷ filter p rows) (filter p rows))) [
        | true ↦ (apart_filter row.number p rows distinct.0, distinct_filter p rows distinct.1)
        | false ↦ distinct_filter p rows distinct.1
      ]

  apart_push : (first : ℕ) (rows : List (Row T)) (new : Row T) → (new.number == first) ≡ false → AllByRecursion (λ m. (first == m) ≡ false) (numbers rows) → AllByRecursion (λ m. (first == m) ≡ false) (numbers (rows ++ new ∷ []))
  apart_push first [] new differs apart = (grind (arith, nat_tests, differs), tt)
  apart_push first (row ∷ rows) new differs apart = (apart.0, apart_push first rows new differs apart.1)

  pub distinct_push : (rows : List (Row T)) (new : Row T) → contains new.number (numbers rows) ≡ false → AreDistinct rows → AreDistinct (rows ++ new ∷ [])
  unfolding IsDistinct
  distinct_push [] new free distinct = (tt, tt)
  distinct_push (row ∷ rows) new free distinct =
      let apart = or_parts (new.number == row.number) (contains new.number (numbers rows)) free in
      (apart_push row.number rows new apart.0 distinct.0, distinct_push rows new apart.1 distinct.1)

  pub numbers_settled : (test : Row T → Bool) (rows : List (Row T)) → numbers (map (settled_where test) rows) ≡ numbers rows
  numbers_settled test [] = refl
  numbers_settled test (row ∷ rows) = ap (λ t. row.number ∷ t) (numbers_settled test rows)

  -- ---- what is due ----

  pub none_due : (now earliest : ℕ) (rows : List (Row T)) → now < earliest → NoneIsDueBefore earliest rows → find (is_due now) rows ≡ None
  none_due now earliest [] before none = refl
  none_due now earliest (row ∷ rows) before none =
      let later : (b : Bool) → row.pending ≡ b → (b && nat_le row.deadline now) ≡ false =
      λ b. elim b as (λ b. row.pending ≡ b → (b && nat_le row.deadline now) ≡ false) [
        | true ↦ λ e. let bound : earliest ≤ row.deadline = All-head (λ (r : Row T). r.pending ≡ true → earliest ≤ r.deadline) row rows none e in grind (arith, nat_tests, bound, before)
        | false ↦ λ e. refl
      ]
      in rw (later row.pending refl) (none_due now earliest rows before (All-tail (λ (r : Row T). r.pending ≡ true → earliest ≤ r.deadline) row rows none))

  pub none_due_push : (earliest : ℕ) (rows : List (Row T)) (new : Row T) → NoneIsDueBefore earliest rows → NoneIsDueBefore (min earliest new.deadline) (rows ++ new ∷ [])
  none_due_push earliest rows new none =
      All-push (λ (r : Row T). r.pending ≡ true → min earliest new.deadline ≤ r.deadline) rows new
      (All-weaker (λ (r : Row T). r.pending ≡ true → earliest ≤ r.deadline) (λ (r : Row T). r.pending ≡ true → min earliest new.deadline ≤ r.deadline) (λ r bound pending. omega (arith, bound pending)) rows none)
      (λ pending. omega arith)

  pub none_due_settled : (test : Row T → Bool) (earliest : ℕ) (rows : List (Row T)) → NoneIsDueBefore earliest rows → NoneIsDueBefore earliest (map (settled_where test) rows)
  none_due_settled test earliest rows none =
      All-map (λ (r : Row T). r.pending ≡ true → earliest ≤ r.deadline) (settled_where test) rows
      (All-weaker (λ (r : Row T). r.pending ≡ true → earliest ≤ r.deadline) (λ (r : Row T). (not (test r) && r.pending) ≡ true → earliest ≤ r.deadline)
      (λ r bound pending. bound (and_parts (not (test r)) r.pending pending).1) rows none)

  pub none_due_more : (time earlier : ℕ) (rows : List (Row T)) (i : ℕ) (row : Row T) → i < length rows → row ≡ get_or rows i row → NoneIsDueBefore time (take i rows) →
      earlier ≤ time → (row.pending ≡ true → earlier ≤ row.deadline) → NoneIsDueBefore earlier (take (i + 1) rows)
  none_due_more time earlier rows i row within is none before here =
      All-more (λ (r : Row T). r.pending ≡ true → earlier ≤ r.deadline) rows i row within
      (All-weaker (λ (r : Row T). r.pending ≡ true → time ≤ r.deadline) (λ (r : Row T). r.pending ≡ true → earlier ≤ r.deadline) (λ r bound pending. omega (arith, bound pending)) (take i rows) none)
      (subst (λ (r : Row T). r.pending ≡ true → earlier ≤ r.deadline) is here)

  pub none_due_all : (time : ℕ) (rows : List (Row T)) (i : ℕ) → length rows ≤ i → NoneIsDueBefore time (take i rows) → NoneIsDueBefore time rows
  none_due_all time rows i all none = subst (λ (l : List (Row T)). NoneIsDueBefore time l) (take_all i rows all) none

  -- ---- some row among the first ----

  any_before : (P : Row T → Type 0) (rows : List (Row T)) (row : Row T) → Any P rows → Any P (rows ++ row ∷ [])
  any_before P rows row (k, x, within, is, here) = (k, x, omega (arith, length-append rows (row ∷ [])), get_or_append_left rows (row ∷ []) x k within ∙ is, here)

  pub any_more : (P : Row T → Type 0) (rows : List (Row T)) (i : ℕ) (row : Row T) → i < length rows → row ≡ get_or rows i row → Any P (take i rows) ⊎ P row → Any P (take (i + 1) rows)
  any_more P rows i row within is some =
      let more : take (i + 1) rows ≡ take i rows ++ row ∷ [] = take_more rows i row within ∙ ap (λ (r : Row T). take i rows ++ r ∷ []) (sym is) in
      subst (λ (l : List (Row T)). Any P l) (sym more) (⊎_elim (λ (old : Any P (take i rows)). any_before P (take i rows) row old) (λ (here : P row). Any-push P (take i rows) row here) some)

  pub any_all : (P : Row T → Type 0) (rows : List (Row T)) (i : ℕ) → length rows ≤ i → Any P (take i rows) → Any P rows
  any_all P rows i all some = subst (λ (l : List (Row T)). Any P l) (take_all i rows all) some

  -- the least deadline is that of some row
  pub least_more : (time least bound : ℕ) (rows : List (Row T)) (i : ℕ) (row : Row T) → i < length rows → row ≡ get_or rows i row → row.pending ≡ true → least ≡ min time row.deadline
      → (time < bound → Any (IsPendingUntil time) (take i rows)) → least < bound → Any (IsPendingUntil least) (take (i + 1) rows)
  least_more time least bound rows i row within is pending least_is before below =
      any_more (IsPendingUntil least) rows i row within is
      (⊎_elim
      (λ (first : row.deadline ≤ time). inr (pending, omega arith))
      (λ (later : time < row.deadline).
      let same : time ≡ least = omega arith in
      inl (subst (λ (t : ℕ). Any (IsPendingUntil t) (take i rows)) same (before (omega arith))))
      (first_or_later row.deadline time))

  pub any_on : (P : Row T → Type 0) (rows : List (Row T)) (i : ℕ) (row : Row T) → i < length rows → row ≡ get_or rows i row → Any P (take i rows) → Any P (take (i + 1) rows)
  any_on P rows i row within is some = any_more P rows i row within is (inl some)
