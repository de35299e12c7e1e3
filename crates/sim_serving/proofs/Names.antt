-- Lists of names that differ, and the clients that go by them.
use Rattle.std.proofs.Common.{◌≡◌, ℕ, ◌<◌, ◌≤◌, Bool, true, false, not, ◌||◌, ◌==◌, if◌then◌else◌, List, [], ◌∷◌, ◌++◌, map, refl, ap, sym, ◌∙◌, subst, arith}
use Rattle.std.proofs.lemmas.Bool.{eqb-true}
use Rattle.std.proofs.lemmas.Bool.Decides.{nat_tests}
use Rattle.std.proofs.lemmas.Map.Keys.{IsDistinct-head, IsDistinct-tail, IsDistinct-cons}
use Rattle.std.specs.List.{AllByRecursion, IsDistinct}
use Rattle.kit_bytes.proofs.Lists.{all_weaker, all_filter, all_push}
use Rattle.proxy_history.specs.Connections.{contains, without}
use Rattle.sim_serving.specs.Core.{Client}
use Rattle.sim_serving.specs.Hearing.{changed, gone}

abbrev pub AreDistinct : List ℕ → Type 0
AreDistinct names = IsDistinct (λ c d. c == d) names

-- the names but this one
abbrev pub AreOthers : ℕ → List ℕ → Type 0
AreOthers c names = AllByRecursion (λ d. (c == d) ≡ false) names

-- ---- who is there ----

pub not_added : (c d : ℕ) (names : List ℕ) → (d == c) ≡ false → contains c names ≡ false → contains c (names ++ d ∷ []) ≡ false
not_added c d [] other absent = grind (arith, nat_tests, other)
not_added c d (x ∷ names) other absent =
    let step : (b : Bool) → (b || contains c names) ≡ false → (b || contains c (names ++ d ∷ [])) ≡ false =
    elim [ true ↦ λ e. e | false ↦ λ e. not_added c d names other e ]
    in step (c == x) absent

pub still_absent : (c d : ℕ) (names : List ℕ) → contains c names ≡ false → contains c (without d names) ≡ false
still_absent c d [] absent = refl
still_absent c d (x ∷ names) absent =
    let Absent : List ℕ → Type 0 = λ l. contains c l ≡ false in
    let step : (b : Bool) → (b || contains c names) ≡ false → (kept : Bool) → (c == x) ≡ b → contains c (if kept then x ∷ without d names else without d names) ≡ false =
    elim [
      | true ↦ λ e kept is. absurd (cc)
      | false ↦ λ e. elim [ true ↦ λ is. ap (λ (b : Bool). b || contains c (without d names)) is ∙ still_absent c d names e | false ↦ λ is. still_absent c d names e ]
    ]
    in step (c == x) absent (not (d == x)) refl

pub others_where_absent : (c : ℕ) (names : List ℕ) → contains c names ≡ false → AreOthers c names
others_where_absent c [] absent = tt
others_where_absent c (x ∷ names) absent =
    let step : (b : Bool) → (c == x) ≡ b → (b || contains c names) ≡ false → ((c == x) ≡ false) × AreOthers c names =
    elim [ true ↦ λ is e. absurd (cc) | false ↦ λ is e. (is, others_where_absent c names e) ]
    in step (c == x) refl absent

pub without_others : (c : ℕ) (names : List ℕ) → AreOthers c names → without c names ≡ names
without_others c [] others = refl
without_others c (x ∷ names) others =
    ap (λ (b : Bool). if not b then x ∷ without c names else without c names) others.0 ∙ ap (λ (l : List ℕ). x ∷ l) (without_others c names others.1)

pub without_are_others : (c : ℕ) (names : List ℕ) → AreOthers c (without c names)
without_are_others c [] = tt
without_are_others c (x ∷ names) =
    let step : (b : Bool) → (c == x) ≡ b → AreOthers c (if not b then x ∷ without c names else without c names) =
    elim [ true ↦ λ is. without_are_others c names | false ↦ λ is. (is, without_are_others c names) ]
    in step (c == x) refl

-- ---- names differ ----

pub distinct_without : (c : ℕ) (names : List ℕ) → AreDistinct names → AreDistinct (without c names)
distinct_without c [] distinct = distinct
distinct_without c (x ∷ names) distinct =
    let rest : AreDistinct (without c names) = distinct_without c names (IsDistinct-tail _ x names distinct) in
    let differ : AllByRecursion (λ y. (x == y) ≡ false) (without c names) = all_filter _ _ names (IsDistinct-head _ x names distinct) in
    let step : (b : Bool) → AreDistinct (if b then x ∷ without c names else without c names) =
    elim [ true ↦ IsDistinct-cons _ x (without c names) differ rest | false ↦ rest ]
    in step (not (c == x))

pub distinct_push : (c greatest : ℕ) (names : List ℕ) → greatest < c → AllByRecursion (λ d. d ≤ greatest) names → AreDistinct names → AreDistinct (names ++ c ∷ [])
distinct_push c greatest [] above known distinct = IsDistinct-cons _ c [] tt distinct
distinct_push c greatest (x ∷ names) above known distinct =
    IsDistinct-cons _ x (names ++ c ∷ []) (all_push _ names c (IsDistinct-head _ x names distinct) (grind (arith, nat_tests, above, known.0)))
    (distinct_push c greatest names above known.1 (IsDistinct-tail _ x names distinct))

pub others_below : (c greatest : ℕ) (names : List ℕ) → greatest < c → AllByRecursion (λ d. d ≤ greatest) names → AreOthers c names
others_below c greatest names above known = all_weaker _ _ (λ d below. grind (arith, nat_tests, above, below)) names known

-- ---- the clients of these names ----

pub same_clients : {X : Type 0} (f g : ℕ → X) (names : List ℕ) → AllByRecursion (λ d. f d ≡ g d) names → map f names ≡ map g names
same_clients f g [] all = refl
same_clients f g (x ∷ names) all = ap (λ k. k ∷ map f names) all.0 ∙ ap (λ l. g x ∷ l) (same_clients f g names all.1)

module _ (c : ℕ) (f : ℕ → Client) (name : (d : ℕ) → (f d).name ≡ d) where
  test : (d : ℕ) → (c == (f d).name) ≡ (c == d)
  test d = ap (λ (n : ℕ). c == n) (name d)

  -- it is gone
  pub gone_is : (names : List ℕ) → AreDistinct names → gone c (map f names) ≡ map f (without c names)
  unfolding gone
  gone_is [] distinct = refl
  gone_is (x ∷ names) distinct =
      let step : (b : Bool) → (c == x) ≡ b → (if b then map f names else f x ∷ gone c (map f names)) ≡ map f (if not b then x ∷ without c names else without c names) =
      elim [
        | true ↦ λ is.
            let differ : AreOthers c names = subst (λ (d : ℕ). AreOthers d names) (sym (eqb-true c x is)) (IsDistinct-head _ x names distinct) in
            ap (map f) (sym (without_others c names differ))
        | false ↦ λ is. ap (λ (l : List Client). f x ∷ l) (gone_is names (IsDistinct-tail _ x names distinct))
      ]
      in ap (λ (b : Bool). if b then map f names else f x ∷ gone c (map f names)) (test x) ∙ step (c == x) refl

  -- it is changed into that of another list, where all others stay
  pub changed_is : (g : ℕ → Client) (change : Client → Client) → ((d : ℕ) → (c == d) ≡ false → f d ≡ g d) → change (f c) ≡ g c
      → (names : List ℕ) → AreDistinct names → changed c change (map f names) ≡ map g names
  unfolding changed
  changed_is g change others own [] distinct = refl
  changed_is g change others own (x ∷ names) distinct =
      let step : (b : Bool) → (c == x) ≡ b → (if b then change (f x) ∷ map f names else f x ∷ changed c change (map f names)) ≡ g x ∷ map g names =
      elim [
        | true ↦ λ is.
            let it : c ≡ x = eqb-true c x is in
            let differ : AreOthers c names = subst (λ (d : ℕ). AreOthers d names) (sym it) (IsDistinct-head _ x names distinct) in
            ap (λ (k : Client). k ∷ map f names) (subst (λ (d : ℕ). change (f d) ≡ g d) it own)
            ∙ ap (λ (l : List Client). g x ∷ l) (same_clients f g names (all_weaker _ _ others names differ))
        | false ↦ λ is.
            ap (λ (k : Client). k ∷ changed c change (map f names)) (others x is)
            ∙ ap (λ (l : List Client). g x ∷ l) (changed_is g change others own names (IsDistinct-tail _ x names distinct))
      ]
      in ap (λ (b : Bool). if b then change (f x) ∷ map f names else f x ∷ changed c change (map f names)) (test x) ∙ step (c == x) refl
