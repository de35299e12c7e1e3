-- Texts that are no given name.
use Rattle.std.proofs.Common.{◌≡◌, ℕ, Bool, true, false, List, refl}
use Rattle.std.specs.Str.{bytes_eq}
use Rattle.std.proofs.lemmas.Slice.Eq.{bytes_eq-Decides}

pub bytes_eq-other : (text name : List ℕ) → ¬ (text ≡ name) → bytes_eq text name ≡ false
bytes_eq-other text name other = is_false (bytes_eq text name) refl
  where
    is_false : (b : Bool) → bytes_eq text name ≡ b → b ≡ false
    is_false false is = refl
    is_false true is = absurd (other ((bytes_eq-Decides text name).0 is))
