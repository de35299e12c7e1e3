-- No more requests wait than are in use.
use Rattle.std.proofs.Common.{◌≡◌, ℕ, ◌≤◌, false, nat_le, List, length, arith}
use Rattle.std.specs.List.{AllByRecursion}
use Rattle.proxy_history.specs.Facts.{Fact, Request}
use Rattle.proxy_history.specs.Requests.{in_use, pending}
use Rattle.proxy_history.specs.Unanswered.{due}
use Rattle.mbim_proxy.specs.ModemStates.{is_own_open}
use Rattle.rig_laws.proofs.Few.{AreSomeOf, none, skips, keeps, as_many, filter_shortens, waiting_are_in_use}

pub few_expire : (time : ℕ) (past : List Fact) → length (due time (pending past)) ≤ length (in_use past)
few_expire time past =
    let some = filter_shortens (λ (r : Request). nat_le r.deadline time) (pending past) in
    let used = as_many (pending past) (in_use past) (waiting_are_in_use past) in
    omega (arith, some, used)

-- what holds of all that are in use holds of those that wait
some_have : (P : Request → Type 0) (xs ys : List Request) → AreSomeOf xs ys → AllByRecursion P ys → AllByRecursion P xs
some_have P _ _ none all = tt
some_have P _ _ (skips y xs ys some) all = some_have P xs ys some all.1
some_have P _ _ (keeps x xs ys some) all = (all.0, some_have P xs ys some all.1)

pub commands_wait : (past : List Fact) → AllByRecursion (λ r. is_own_open r ≡ false) (in_use past) → AllByRecursion (λ r. is_own_open r ≡ false) (pending past)
commands_wait past all = some_have (λ (r : Request). is_own_open r ≡ false) (pending past) (in_use past) (waiting_are_in_use past) all
