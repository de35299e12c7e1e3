-- No connection has the name of the proxy itself, which is 0.
use Rattle.std.proofs.Common.{◌≡◌, ℕ, zero, suc, ◌≤◌, Bool, true, false, not, ◌&&◌, ◌||◌, ◌==◌, List, [], ◌∷◌, ◌++◌, refl, ap, ◌∙◌, arith}
use Rattle.std.proofs.lemmas.Bool.Decides.{nat_tests}
use Rattle.proxy_history.specs.Limits.{Limits}
use Rattle.proxy_history.specs.Facts.{Fact, NotAdmitted, BadStream, NoRoom, Leaving, EventBegan, Admitted, Ended}
use Rattle.proxy_history.specs.Connections.{present, dropped, contains}
use Rattle.proxy_history.specs.Sound.{MayFollow}
use Rattle.proxy_history.proofs.Lists.{contains_kept}

-- whoever is let in or refused has another name
abbrev pub IsNamed : Fact → Type 0
IsNamed (Admitted c) = 1 ≤ c
IsNamed (Ended c NotAdmitted) = 1 ≤ c
IsNamed _ = Unit {0}

other_than : (c : ℕ) → 1 ≤ c → (0 == c) ≡ false
other_than c some = grind (arith, nat_tests, some)

there_is_some : (c : ℕ) (names : List ℕ) → contains 0 names ≡ false → contains c names ≡ true → 1 ≤ c
there_is_some zero names none there = absurd (cc)
there_is_some (suc c) names none there = omega arith

none_behind : (c : ℕ) (names : List ℕ) → 1 ≤ c → contains 0 names ≡ false → contains 0 (names ++ c ∷ []) ≡ false
none_behind c [] some none = ap (λ (b : Bool). b || false) (other_than c some)
none_behind c (d ∷ names) some none =
    let parts : (b : Bool) → (b || contains 0 names) ≡ false → (b || contains 0 (names ++ c ∷ [])) ≡ false =
    λ b. elim b as (λ b. (b || contains 0 names) ≡ false → (b || contains 0 (names ++ c ∷ [])) ≡ false) [ true ↦ λ e. e | false ↦ λ e. none_behind c names some e ]
    in parts (0 == d) none

pub still_no_client : (fact : Fact) (past : List Fact) → IsNamed fact → contains 0 (present past) ≡ false → contains 0 (present (fact ∷ past)) ≡ false
unfolding present
still_no_client (Admitted c) past named none = none_behind c (present past) named none
still_no_client (Ended c why) past named none = contains_kept 0 (λ (d : ℕ). not (c == d)) (present past) ∙ ap (λ (b : Bool). b && not (c == 0)) none
still_no_client _ past named none = none

pub still_never_dropped : (limits : Limits) (fact : Fact) (past : List Fact) → MayFollow limits fact past → IsNamed fact → contains 0 (present past) ≡ false → contains 0 (dropped past) ≡ false
    → contains 0 (dropped (fact ∷ past)) ≡ false
unfolding dropped
still_never_dropped limits EventBegan past follows named none never = refl
still_never_dropped limits (Ended c NotAdmitted) past follows named none never = none_behind c (dropped past) named never
still_never_dropped limits (Ended c BadStream) past follows named none never = none_behind c (dropped past) (there_is_some c (present past) none follows) never
still_never_dropped limits (Ended c NoRoom) past follows named none never = none_behind c (dropped past) (there_is_some c (present past) none follows) never
still_never_dropped limits (Ended c Leaving) past follows named none never = never
still_never_dropped limits _ past follows named none never = never
