-- Names rise in order of joining, so that one is found by halves.
use Rattle.std.proofs.Common.{◌≡◌, ℕ, ◌<◌, ◌≤◌, nat_lt, Bool, true, false, List, [], ◌∷◌, ◌++◌, length, get_or, set, position, ap, sym, ◌∙◌, arith, Some, None}
use Rattle.std.specs.List.{AllByRecursion, AllWithin, remove}
use Rattle.std.specs.List.Sorted.{IsPartitionedBy}
use Rattle.std.proofs.lemmas.Bool.Decides.{nat_tests}
use Rattle.std.proofs.lemmas.List.{get_or_default}
use Rattle.kit_bytes.specs.Sorted.{IsInOrder}
use Rattle.kit_bytes.proofs.Lists.{all_weaker, all_push, all_remove, all_set}
use Rattle.kit_bytes.proofs.Sorted.{position_is, in_order_at, in_order_push, in_order_remove, in_order_set, partitioned, searched_here, searched_end, searched_other}
use Rattle.many_history.specs.Many.{Seat}
use Rattle.many_seats.specs.Seats.{IsSeat, AreRising, AreInOrder}
use Rattle.many_seats.proofs.Placed.{is_named}

abbrev joined_before : Seat → Seat → Type 0
joined_before k l = k.conn < l.conn

-- ---- they stay in order ----

pub none_in_order : AreInOrder [] 0
unfolding IsInOrder
none_in_order = record { rising = tt; known = tt }

module _ (seats : List Seat) (greatest : ℕ) (order : AreInOrder seats greatest) where
  known_below : (conn : ℕ) → greatest < conn → AllByRecursion (λ (seat : Seat). seat.conn ≤ conn) seats
  known_below conn newer = all_weaker (λ (seat : Seat). seat.conn ≤ greatest) (λ (seat : Seat). seat.conn ≤ conn) (λ seat low. omega arith) seats order.known

  pub joined_in_order : (seat : Seat) (conn : ℕ) → greatest < conn → seat.conn ≡ conn → AreInOrder (seats ++ seat ∷ []) conn
  joined_in_order seat conn newer named = record {
    rising = in_order_push joined_before seats seat (all_weaker (λ (l : Seat). l.conn ≤ greatest) (λ (l : Seat). l.conn < seat.conn) (λ l low. omega (arith, named)) seats order.known) order.rising;
    known = all_push (λ (l : Seat). l.conn ≤ conn) seats seat (known_below conn newer) (omega (arith, named));
  }

  pub refused_in_order : (conn : ℕ) → greatest < conn → AreInOrder seats conn
  refused_in_order conn newer = record { rising = order.rising; known = known_below conn newer }

  pub removed_in_order : (i : ℕ) → AreInOrder (remove seats i) greatest
  removed_in_order i = record {
    rising = in_order_remove joined_before seats i order.rising;
    known = all_remove (λ (seat : Seat). seat.conn ≤ greatest) seats i order.known;
  }

  -- the one of a place changes, and keeps its name
  pub changed_in_order : (i : ℕ) (seat new : Seat) → IsSeat seat seats i → new.conn ≡ seat.conn → AreInOrder (set seats i new) greatest
  changed_in_order i seat new at named = record {
    rising = in_order_set joined_before seats i new seat (λ l after. omega (arith, name_is, after)) (λ l before. omega (arith, name_is, before)) order.rising;
    known = all_set (λ (l : Seat). l.conn ≤ greatest) seats i new seat (λ low. omega (arith, name_is, low)) order.known;
  }
    where
      name_is : new.conn ≡ (get_or seats i seat).conn
      name_is = named ∙ ap (λ (l : Seat). l.conn) at

-- ---- one is found by halves ----

module _ (conn : ℕ) where
  abbrev pub is_before : Seat → Bool
  is_before seat = nat_lt seat.conn conn

  apart : (k : Seat) → is_before k ≡ true → is_named conn k ≡ false
  apart k before = grind (arith, nat_tests, before)

  ahead : (k l : Seat) → k.conn < l.conn → is_named conn l ≡ true → is_before k ≡ true
  ahead k l less named = grind (arith, nat_tests, less, named)

  pub halved : (seats : List Seat) → AreRising seats → IsPartitionedBy is_before seats
  halved seats rising = partitioned joined_before is_before (λ k l less before. grind (arith, nat_tests, less, before)) seats rising

  module _ (seats : List Seat) (place : ℕ) (lower : AllWithin (λ k. is_before k ≡ true) seats 0 place) where
    pub found_end : place ≡ length seats → None ≡ position (is_named conn) seats
    found_end end = sym (searched_end joined_before (is_named conn) is_before apart ahead seats place lower end)

    module _ (seat : Seat) (within : place < length seats) (at : IsSeat seat seats place) where
      pub found_here : is_named conn seat ≡ true → Some place ≡ position (is_named conn) seats
      found_here here = sym (searched_here joined_before (is_named conn) is_before apart ahead seats place lower seat within (ap (is_named conn) (sym at) ∙ here))

      pub found_other : is_named conn seat ≡ false → AllWithin (λ k. is_before k ≡ false) seats place (length seats) → AreRising seats → None ≡ position (is_named conn) seats
      found_other other rest rising =
          sym (searched_other joined_before (is_named conn) is_before apart ahead seats place lower rest rising within (λ d. ap (is_named conn) (get_or_default seats place d seat within ∙ sym at) ∙ other))

  pub found_in_order : (seats : List Seat) → AreRising seats → (place : ℕ) (seat : Seat) → place < length seats → IsSeat seat seats place → is_named conn seat ≡ true → Some place ≡ position (is_named conn) seats
  found_in_order seats rising place seat within at named =
      let here : is_named conn (get_or seats place seat) ≡ true = ap (is_named conn) (sym at) ∙ named in
      let apart_from : (k : ℕ) → k < place → is_named conn (get_or seats k seat) ≡ false = λ k earlier.
      let rises : (get_or seats k seat).conn < (get_or seats place seat).conn = in_order_at joined_before seats k place seat rising earlier within in
      apart (get_or seats k seat) (ahead (get_or seats k seat) (get_or seats place seat) rises here)
      in
      sym (position_is (is_named conn) seats place seat apart_from within here)
