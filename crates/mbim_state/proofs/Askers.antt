-- Those who asked to open the modem and had to wait: each of them once, and all of them there. So there is room for one more.
use Rattle.std.proofs.Common.{◌≡◌, ℕ, suc, ◌<◌, ◌≤◌, nat_lt, Bool, true, false, not, cond, ◌||◌, ◌&&◌, ◌==◌, List, [], ◌∷◌, ◌++◌, length, refl, ap, ◌∙◌, arith, if◌then◌else◌}
use Rattle.std.specs.List.{AllByRecursion, IsDistinct}
use Rattle.std.proofs.lemmas.Bool.Decides.{nat_tests}
use Rattle.kit_bytes.proofs.Lists.{all_weaker, all_passing, all_filter, all_push}
use Rattle.proxy_history.specs.Limits.{Limits}
use Rattle.proxy_history.specs.Facts.{Fact, Verdict, Own, Share, Foreign, Away, Full, Forward, Ready, Waits, Admitted, Ended, Judged}
use Rattle.proxy_history.specs.Connections.{contains, without, present}
use Rattle.proxy_history.specs.Sound.{IsSound}
use Rattle.proxy_history.proofs.Lists.{contains_kept, ne_apart}
use Rattle.proxy_history.proofs.Numbers.{contains_other, without_le}
use Rattle.proxy_history.proofs.SoundLaws.{contains-append}
use Rattle.proxy_history.proofs.Few.{few_are_present}
use Rattle.proxy_state.proofs.Lists.{filter_passes}
use Rattle.proxy_state.proofs.Names.{distinct_filter}
use Rattle.proxy_state.proofs.Telling.{AreThere}
use Rattle.mbim_proxy.specs.Setup.{Setup}
use Rattle.mbim_proxy.specs.Lists.{askers}
use Rattle.mbim_state.specs.Transitions.{asked_last, asked_with}

abbrev pub AreOnce : List ℕ → Type 0
AreOnce names = IsDistinct (λ c d. c == d) names

-- ---- names ----

module _ (c : ℕ) where
  apart : (names : List ℕ) → AllByRecursion (λ d. (d == c) ≡ false) (without c names)
  apart [] = tt
  apart (d ∷ names) = by (c == d) refl (apart names)
    where
      by : (b : Bool) → (c == d) ≡ b → AllByRecursion (λ e. (e == c) ≡ false) (without c names) → AllByRecursion (λ e. (e == c) ≡ false) (cond (not b) (d ∷ without c names) (without c names))
      by true is rest = rest
      by false is rest = (grind (arith, nat_tests, is), rest)

  once_last : (names : List ℕ) → AllByRecursion (λ d. (d == c) ≡ false) names → AreOnce names → AreOnce (names ++ c ∷ [])
  unfolding IsDistinct
  once_last [] apart once = (tt, tt)
  once_last (d ∷ names) apart once = (all_push (λ e. (d == e) ≡ false) names c once.0 apart.0, once_last names apart.1 once.1)

  shorter : (names : List ℕ) → contains c names ≡ true → length (without c names) < length names
  shorter [] is = absurd (cc)
  shorter (d ∷ names) is = by (c == d) is (shorter names)
    where
      by : (b : Bool) → (b || contains c names) ≡ true → (contains c names ≡ true → length (without c names) < length names) → length (cond (not b) (d ∷ without c names) (without c names)) < suc (length names)
      by true is rest = let less = without_le c names in omega (arith, less)
      by false is rest = let less = rest is in omega (arith, less)

  -- without one of those who are there, the others are among the others
  still_there : (names cs : List ℕ) → AreThere names cs → AreThere (without c names) (without c cs)
  still_there names cs there =
      all_passing (λ d. not (c == d)) (λ d. contains d names ≡ true) (λ d. contains d (without c names) ≡ true)
      (λ d other is. contains_kept d (λ e. not (c == e)) names ∙ ap (λ (b : Bool). b && not (c == d)) is ∙ other) cs there

  left_there : (names cs : List ℕ) → AllByRecursion (λ d. (c == d) ≡ false) cs → AreThere names cs → AreThere (without c names) cs
  left_there names [] apart there = tt
  left_there names (d ∷ cs) apart there = (contains_other c d names apart.0 ∙ there.0, left_there names cs apart.1 there.1)

  -- a stranger is none of those who are there
  without_stranger : (names cs : List ℕ) → contains c names ≡ false → AreThere names cs → without c cs ≡ cs
  without_stranger names cs out there =
      filter_passes (λ d. not (c == d)) cs
      (all_weaker (λ d. contains d names ≡ true) (λ d. not (c == d) ≡ true)
      (λ d is. let other = ne_apart d c names is out in let flipped : (c == d) ≡ false = grind (arith, nat_tests, other) in ap not flipped) cs there)

-- names that differ and are all among others are no more than those
no_more : (cs names : List ℕ) → AreOnce cs → AreThere names cs → length cs ≤ length names
unfolding IsDistinct
no_more [] names once there = omega arith
no_more (c ∷ cs) names once there =
    let less = shorter c names there.0 in
    let rest = no_more cs (without c names) once.1 (left_there c names cs once.0 there.1) in
    omega (arith, less, rest)

-- ---- those who asked ----

pub askers_once : (past : List Fact) → AreOnce (askers past)
unfolding askers IsDistinct
askers_once [] = tt
askers_once (Judged c place m Waits ∷ past) = once_last c (without c (askers past)) (apart c (askers past)) (distinct_filter (λ d. not (c == d)) (askers past) (askers_once past))
askers_once (Ended c why ∷ past) = distinct_filter (λ d. not (c == d)) (askers past) (askers_once past)
askers_once (_ ∷ past) = askers_once past

module _ (limits : Limits) where
  pub askers_there : (past : List Fact) → IsSound limits past → AreThere (present past) (askers past)
  unfolding askers present
  askers_there [] sound = tt
  askers_there (Judged c place m Waits ∷ past) sound =
      all_push (λ d. contains d (present past) ≡ true) (without c (askers past)) c
      (all_filter (λ d. contains d (present past) ≡ true) (λ d. not (c == d)) (askers past) (askers_there past sound.1)) sound.0
  askers_there (Admitted c ∷ past) sound =
      all_weaker (λ d. contains d (present past) ≡ true) (λ d. contains d (present past ++ c ∷ []) ≡ true)
      (λ d is. contains-append d (present past) (c ∷ []) ∙ ap (λ (b : Bool). b || contains d (c ∷ [])) is) (askers past) (askers_there past sound.1)
  askers_there (Ended c why ∷ past) sound = still_there c (present past) (askers past) (askers_there past sound.1)
  askers_there (_ ∷ past) sound = askers_there past sound.1

  -- whoever is there finds room behind the others
  pub asks_last : (past : List Fact) (c : ℕ) → IsSound limits past → contains c (present past) ≡ true → asked_last limits.connections c (askers past) ≡ without c (askers past) ++ c ∷ []
  asks_last past c sound there =
      let others : List ℕ = without c (askers past) in
      let fit = no_more others (without c (present past)) (distinct_filter (λ d. not (c == d)) (askers past) (askers_once past)) (still_there c (present past) (askers past) (askers_there past sound)) in
      let fewer = shorter c (present past) there in
      let few = few_are_present limits past sound in
      let below : length others < limits.connections = omega (arith, fit, fewer, few) in
      let room : nat_lt (length others) limits.connections ≡ true = grind (arith, nat_tests, below) in
      ap (λ (b : Bool). if b then others ++ c ∷ [] else others) room

-- a message is judged
pub asked_is : (s : Setup) (past : List Fact) (c place : ℕ) (m : List ℕ) (verdict : Verdict) → IsSound s.limits past → contains c (present past) ≡ true
    → asked_with s c verdict (askers past) ≡ askers (Judged c place m verdict ∷ past)
unfolding askers
asked_is s past c place m Own sound there = refl
asked_is s past c place m Share sound there = refl
asked_is s past c place m Foreign sound there = refl
asked_is s past c place m Away sound there = refl
asked_is s past c place m Full sound there = refl
asked_is s past c place m Forward sound there = refl
asked_is s past c place m Ready sound there = refl
asked_is s past c place m Waits sound there = asks_last s.limits past c sound there

-- one who isn't there asked for nothing
pub asked_by_stranger : (limits : Limits) (past : List Fact) (c : ℕ) → contains c (present past) ≡ false → IsSound limits past → without c (askers past) ≡ askers past
asked_by_stranger limits past c absent sound = without_stranger c (present past) (askers past) absent (askers_there limits past sound)
