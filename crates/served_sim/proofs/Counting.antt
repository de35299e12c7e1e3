-- What is counted down, and what is changed in a list, one after another.
use Rattle.std.proofs.Common.{◌≡◌, ℕ, suc, zero, ◌+◌, ◌-◌, ◌<◌, ◌≤◌, ◌==◌, Bool, true, false, List, [], ◌∷◌, ◌++◌, map, length, get_or, set, take, drop, add-one, append-nil, refl, sym, ap, ◌∙◌, arith, true≢false}
use Rattle.std.proofs.lemmas.Bool.{eq-eqb, eqb-true}
use Rattle.std.proofs.lemmas.List.{drop_all, take_all}

pub same-test : (a b c d : ℕ) (l r : Bool) → (a == b) ≡ l → (c == d) ≡ r → (a ≡ b → c ≡ d) → (c ≡ d → a ≡ b) → (a == b) ≡ (c == d)
same-test a b c d true r left right to from = left ∙ sym (eq-eqb c d (to (eqb-true a b left)))
same-test a b c d false true left right to from = absurd (true≢false (sym (eq-eqb a b (from (eqb-true c d right))) ∙ left))
same-test a b c d false false left right to from = left ∙ sym right

-- one is left of what is counted down where it is one more
pub one-left : (nth n : ℕ) → (nth - n == 1) ≡ (nth == n + 1)
one-left nth n = same-test (nth - n) 1 nth (n + 1) _ _ refl refl (λ is. omega (arith, is)) (λ is. omega (arith, is))

-- ---- in a list, one after another ----

-- those in front of a place are changed
abbrev pub changed_to : {A : Type 0} → (A → A) → ℕ → List A → List A
changed_to change i [] = []
changed_to change zero (x ∷ xs) = x ∷ xs
changed_to change (suc i) (x ∷ xs) = change x ∷ changed_to change i xs

pub changed_to-none : {A : Type 0} (change : A → A) (xs : List A) → xs ≡ changed_to change 0 xs
changed_to-none change [] = refl
changed_to-none change (x ∷ xs) = refl

changed_to-one : {A : Type 0} (change : A → A) (i : ℕ) (xs : List A) (x : A) → i < length xs → x ≡ get_or (changed_to change i xs) i x
    → set (changed_to change i xs) i (change x) ≡ changed_to change (suc i) xs
changed_to-one change i [] x within is = absurd (omega (arith, within))
changed_to-one change zero (y ∷ xs) x within is = ap (λ z. change z ∷ xs) is ∙ ap (λ ys. change y ∷ ys) (changed_to-none change xs)
changed_to-one change (suc i) (y ∷ xs) x within is = ap (λ ys. change y ∷ ys) (changed_to-one change i xs x (omega (arith, within)) is)

pub changed_to-next : {A : Type 0} (change : A → A) (i : ℕ) (xs : List A) (x : A) → i < length xs → x ≡ get_or (changed_to change i xs) i x
    → set (changed_to change i xs) i (change x) ≡ changed_to change (i + 1) xs
changed_to-next change i xs x within is = changed_to-one change i xs x within is ∙ ap (λ n. changed_to change n xs) (sym (add-one i))

pub changed_to-length : {A : Type 0} (change : A → A) (i : ℕ) (xs : List A) → length (changed_to change i xs) ≡ length xs
changed_to-length change i [] = refl
changed_to-length change zero (x ∷ xs) = refl
changed_to-length change (suc i) (x ∷ xs) = ap suc (changed_to-length change i xs)

pub changed_to-all : {A : Type 0} (change : A → A) (i : ℕ) (xs : List A) → length xs ≤ i → changed_to change i xs ≡ map change xs
changed_to-all change i [] all = refl
changed_to-all change zero (x ∷ xs) all = absurd (omega (arith, all))
changed_to-all change (suc i) (x ∷ xs) all = ap (λ ys. change x ∷ ys) (changed_to-all change i xs (omega (arith, all)))

-- what was written stands in front of what the list has room for
pub written : {A : Type 0} (xs ys : List A) (room : ℕ) → length xs ≡ length ys → length xs ≤ room → take room (xs ++ drop (length xs) ys) ≡ xs
written xs ys room same within =
    ap (λ l. take room (xs ++ l)) (drop_all (length xs) ys (omega (arith, same))) ∙ ap (take room) (append-nil xs) ∙ take_all room xs within
