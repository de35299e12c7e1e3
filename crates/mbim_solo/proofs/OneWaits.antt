-- Where one client alone waits for the modem to open, it is the only one of those who are told.
use Rattle.std.proofs.Common.{◌≡◌, ℕ, Bool, true, false, ◌&&◌, ◌||◌, ◌==◌, is_some, List, [], ◌∷◌, refl, ap, sym, ◌∙◌}
use Rattle.std.specs.List.{IsDistinct}
use Rattle.std.proofs.lemmas.Bool.{eq-eqb, eqb-true, true≢false}
use Rattle.proxy_history.specs.Facts.{Fact}
use Rattle.proxy_history.specs.Connections.{contains, is_present}
use Rattle.proxy_state.proofs.Names.{distinct_filter}
use Rattle.mbim_proxy.specs.Setup.{Setup}
use Rattle.mbim_proxy.specs.Step.{known_now}
use Rattle.mbim_proxy.specs.Lists.{askers, waiting}
use Rattle.mbim_proxy.proofs.Waiting.{waits_is}
use Rattle.mbim_state.proofs.Askers.{AreOnce, askers_once}

module _ (c : ℕ) where
  abbrev NoneElse : List ℕ → Type 0
  NoneElse names = (d : ℕ) → (d == c) ≡ false → contains d names ≡ false

  it_is : (x : ℕ) (names : List ℕ) → contains x names ≡ true → NoneElse names → x ≡ c
  it_is x names at none = by (x == c) refl
    where
      by : (b : Bool) → (x == c) ≡ b → x ≡ c
      by true is = eqb-true x c is
      by false other = absurd (true≢false (sym at ∙ none x other))

  first_in : (x : ℕ) (names : List ℕ) → contains x (x ∷ names) ≡ true
  first_in x names = ap (λ (b : Bool). b || contains x names) (eq-eqb x x refl)

  second_in : (x y : ℕ) (names : List ℕ) → contains y (x ∷ y ∷ names) ≡ true
  second_in x y names = ap (λ (b : Bool). y == x || b) (first_in y names) ∙ elim (y == x) as (λ b. (b || true) ≡ true) [ true ↦ refl | false ↦ refl ]

  only_one : (names : List ℕ) → AreOnce names → contains c names ≡ true → NoneElse names → names ≡ c ∷ []
  unfolding IsDistinct
  only_one [] once there none = absurd (cc)
  only_one (x ∷ []) once there none = ap (λ (n : ℕ). n ∷ []) (it_is x (x ∷ []) (first_in x []) none)
  only_one (x ∷ y ∷ names) once there none =
      let same : x ≡ y = it_is x (x ∷ y ∷ names) (first_in x (y ∷ names)) none ∙ sym (it_is y (x ∷ y ∷ names) (second_in x y names) none) in
      absurd (true≢false (sym (eq-eqb x y same) ∙ once.0.0))

  pub one_waits : (s : Setup) (past : List Fact) → (is_present c past && is_some (known_now s c past).waits) ≡ true
      → ((d : ℕ) → (d == c) ≡ false → (is_present d past && is_some (known_now s d past).waits) ≡ false) → waiting s past ≡ c ∷ []
  one_waits s past there none =
      only_one (waiting s past) (distinct_filter (λ d. is_present d past && is_some (known_now s d past).waits) (askers past) (askers_once past))
      (waits_is s c past ∙ there) (λ d other. waits_is s d past ∙ none d other)
