-- No more requests wait than are in use.
use Rattle.std.proofs.Common.{◌≡◌, ℕ, suc, ◌*◌, ◌<◌, ◌≤◌, Bool, true, false, not, cond, ◌&&◌, ◌==◌, nat_le, List, [], ◌∷◌, ◌++◌, length, filter, arith, length-append}
use Rattle.proxy_history.specs.Facts.{Fact, Request, Ended, Forwarded, Answered, IdHeld, Late, Expired, Aborted, Reset, ModemLost}
use Rattle.std.proofs.lemmas.Bool.Decides.{nat_tests}
use Rattle.proxy_history.specs.Requests.{in_use, pending, of_space, of_client, has_share}
use Rattle.proxy_history.specs.Unanswered.{due}
use Rattle.qmi_proxy.specs.Spaces.{control_space, service_space}
use Rattle.qmi_proxy.specs.FromModem.{in_expiry_order}

-- some of these requests, in their order
pub data AreSomeOf : List Request → List Request → Type 0 where
  none : AreSomeOf [] []
  skips : (y : Request) (xs ys : List Request) → AreSomeOf xs ys → AreSomeOf xs (y ∷ ys)
  keeps : (x : Request) (xs ys : List Request) → AreSomeOf xs ys → AreSomeOf (x ∷ xs) (x ∷ ys)

pub as_many : (xs ys : List Request) → AreSomeOf xs ys → length xs ≤ length ys
as_many _ _ none = omega arith
as_many _ _ (skips y xs ys some) = omega (arith, as_many xs ys some)
as_many _ _ (keeps x xs ys some) = omega (arith, as_many xs ys some)

no_request : (ys : List Request) → AreSomeOf [] ys
no_request [] = none
no_request (y ∷ ys) = skips y [] ys (no_request ys)

one_more : (r : Request) (xs ys : List Request) → AreSomeOf xs ys → AreSomeOf (xs ++ r ∷ []) (ys ++ r ∷ [])
one_more r _ _ none = keeps r [] [] none
one_more r _ _ (skips y xs ys some) = skips y (xs ++ r ∷ []) (ys ++ r ∷ []) (one_more r xs ys some)
one_more r _ _ (keeps x xs ys some) = keeps x (xs ++ r ∷ []) (ys ++ r ∷ []) (one_more r xs ys some)

module _ (p : Request → Bool) where
  skips_if : (b : Bool) (y : Request) (xs ys : List Request) → AreSomeOf xs ys → AreSomeOf xs (cond b (y ∷ ys) ys)
  skips_if true y xs ys some = skips y xs ys some
  skips_if false y xs ys some = some

  keeps_if : (b : Bool) (x : Request) (xs ys : List Request) → AreSomeOf xs ys → AreSomeOf (cond b (x ∷ xs) xs) (cond b (x ∷ ys) ys)
  keeps_if true x xs ys some = keeps x xs ys some
  keeps_if false x xs ys some = some

  left_if : (b : Bool) (x : Request) (xs ys : List Request) → AreSomeOf xs ys → AreSomeOf (cond b (x ∷ xs) xs) (x ∷ ys)
  left_if true x xs ys some = keeps x xs ys some
  left_if false x xs ys some = skips x xs ys some

  filtered_both : (xs ys : List Request) → AreSomeOf xs ys → AreSomeOf (filter p xs) (filter p ys)
  filtered_both _ _ none = none
  filtered_both _ _ (skips y xs ys some) = skips_if (p y) y (filter p xs) (filter p ys) (filtered_both xs ys some)
  filtered_both _ _ (keeps x xs ys some) = keeps_if (p x) x (filter p xs) (filter p ys) (filtered_both xs ys some)

  filtered : (xs ys : List Request) → AreSomeOf xs ys → AreSomeOf (filter p xs) ys
  filtered _ _ none = none
  filtered _ _ (skips y xs ys some) = skips y (filter p xs) ys (filtered xs ys some)
  filtered _ _ (keeps x xs ys some) = left_if (p x) x (filter p xs) ys (filtered xs ys some)

  pub filter_shortens : (xs : List Request) → length (filter p xs) ≤ length xs
  filter_shortens [] = omega arith
  filter_shortens (x ∷ xs) = let less = filter_shortens xs in elim (p x) as (λ b. length (cond b (x ∷ filter p xs) (filter p xs)) ≤ suc (length xs)) [ true ↦ omega (arith, less) | false ↦ omega (arith, less) ]

pub waiting_are_in_use : (past : List Fact) → AreSomeOf (pending past) (in_use past)
unfolding pending in_use
waiting_are_in_use [] = none
waiting_are_in_use (Forwarded r ∷ past) = one_more r (pending past) (in_use past) (waiting_are_in_use past)
waiting_are_in_use (Answered r m ∷ past) = filtered_both (λ q. not (r.serial == q.serial)) (pending past) (in_use past) (waiting_are_in_use past)
waiting_are_in_use (IdHeld r ∷ past) = filtered_both (λ q. not (r.serial == q.serial)) (pending past) (in_use past) (waiting_are_in_use past)
waiting_are_in_use (Late r ∷ past) = filtered_both (λ q. not (r.serial == q.serial)) (pending past) (in_use past) (waiting_are_in_use past)
waiting_are_in_use (Expired r ∷ past) = filtered (λ q. not (r.serial == q.serial)) (pending past) (in_use past) (waiting_are_in_use past)
waiting_are_in_use (Aborted r ∷ past) = filtered (λ q. not (r.serial == q.serial)) (pending past) (in_use past) (waiting_are_in_use past)
waiting_are_in_use (Ended c why ∷ past) = filtered (λ q. not (c == q.conn)) (pending past) (in_use past) (waiting_are_in_use past)
waiting_are_in_use (Reset ∷ past) = none
waiting_are_in_use (ModemLost ∷ past) = none
waiting_are_in_use (_ ∷ past) = waiting_are_in_use past

-- so few expire at once, twice as many at most as the two number spaces say
pub few_expire : (time : ℕ) (past : List Fact) → length (in_expiry_order (due time (pending past))) ≤ 2 * length (in_use past)
few_expire time past =
    let waiting : List Request = due time (pending past) in
    let both = length-append (of_space control_space waiting) (of_space service_space waiting) in
    let control = filter_shortens (λ (r : Request). r.space == control_space) waiting in
    let service = filter_shortens (λ (r : Request). r.space == service_space) waiting in
    let some = filter_shortens (λ (r : Request). nat_le r.deadline time) (pending past) in
    let used = as_many (pending past) (in_use past) (waiting_are_in_use past) in
    omega (arith, both, control, service, some, used)

above_all : (share n : ℕ) → n < share → nat_le share n ≡ false
above_all share n few = grind (arith, nat_tests)

-- where fewer are in use than a client may have waiting, nobody's share is used up
pub few_wait : (share c space : ℕ) (past : List Fact) → length (in_use past) < share → has_share share c space past ≡ false
few_wait share c space past few =
    let of_it = filter_shortens (λ (r : Request). r.conn == c && (r.space == space)) (pending past) in
    let used = as_many (pending past) (in_use past) (waiting_are_in_use past) in
    above_all share (length (of_client c space (pending past))) (omega (arith, of_it, used, few))
