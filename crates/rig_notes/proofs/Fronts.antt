-- Whether two parts of bytes begin with some bytes.
use Rattle.std.proofs.Common.{◌≡◌, ℕ, suc, Bool, true, false, ◌&&◌, min, List, [], ◌∷◌, ◌++◌, length, take, drop, refl, ap, sym, ◌∙◌, arith}
use Rattle.std.specs.List.{starts_with}

and_assoc : (a b c : Bool) → (a && b) && c ≡ a && (b && c)
and_assoc true b c = refl
and_assoc false b c = refl

-- where as many of them as the first part has stand in it, and the others in the second
pub begins_both : (eq : ℕ → ℕ → Bool) (first second bytes : List ℕ) →
    starts_with eq (first ++ second) bytes ≡ starts_with eq first (take (min (length bytes) (length first)) bytes) && starts_with eq second (drop (min (length bytes) (length first)) bytes)
begins_both eq [] second [] = refl
begins_both eq [] second (b ∷ bytes) = let none : min (suc (length bytes)) 0 ≡ 0 = omega arith in rw none refl
begins_both eq (a ∷ first) second [] = let none : min 0 (suc (length first)) ≡ 0 = omega arith in rw none refl
begins_both eq (a ∷ first) second (b ∷ bytes) =
    let more : min (suc (length bytes)) (suc (length first)) ≡ suc (min (length bytes) (length first)) = omega arith in
    rw more (ap (λ (r : Bool). eq b a && r) (begins_both eq first second bytes) ∙ sym (and_assoc (eq b a) _ _))
