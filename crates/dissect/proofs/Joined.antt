-- What is added to a text piece by piece is added to it whole.
use Rattle.std.proofs.Common.{◌≡◌, ℕ, List, ◌++◌, refl, ap, ◌∙◌, append_assoc}

-- one piece behind what was added
pub then_one : (old x y : List ℕ) {mid new : List ℕ} → mid ≡ old ++ x → new ≡ mid ++ y → new ≡ old ++ (x ++ y)
then_one old x y begun more = more ∙ ap (λ (l : List ℕ). l ++ y) begun ∙ append_assoc old x y

-- two pieces behind what was added
pub then_two : (old x y z : List ℕ) {mid new : List ℕ} → mid ≡ old ++ x → new ≡ (mid ++ y) ++ z → new ≡ old ++ ((x ++ y) ++ z)
then_two old x y z {mid = mid} begun more = then_one old (x ++ y) z {mid = mid ++ y} (then_one old x y begun refl) more

-- two pieces
pub both : (old x y : List ℕ) {new : List ℕ} → new ≡ (old ++ x) ++ y → new ≡ old ++ (x ++ y)
both old x y added = added ∙ append_assoc old x y
