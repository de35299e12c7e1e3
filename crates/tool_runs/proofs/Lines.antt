-- How the lines of messages grow, message by message.
use Rattle.std.proofs.Common.{◌≡◌, ℕ, zero, suc, List, [], ◌∷◌, ◌++◌, take, slice_get, Some, ap, sym, ◌∙◌, append_assoc, append-nil}
use Rattle.std.specs.List.{flat_map}
use Rattle.std.proofs.lemmas.Option.{same_Some}

-- one element more
pub flat_map-take : {A B : Type 0} (f : A → List B) (xs : List A) (k : ℕ) (x : A) → slice_get xs k ≡ Some x → flat_map f (take (suc k) xs) ≡ flat_map f (take k xs) ++ f x
flat_map-take f [] zero x e = absurd (cc)
flat_map-take f [] (suc k) x e = absurd (cc)
flat_map-take f (y ∷ ys) zero x e = append-nil (f y) ∙ ap f (same_Some y x e)
flat_map-take f (y ∷ ys) (suc k) x e =
    ap (λ l. f y ++ l) (flat_map-take f ys k x e) ∙ sym (append_assoc (f y) (flat_map f (take k ys)) (f x))
