-- Some number, where it is given.
use Rattle.std.proofs.Common.{◌≡◌, ℕ, Bool, true, false, if◌then◌else◌, Some, None, is_some, refl}

pub found : (few : Bool) (number : ℕ) → few ≡ true → is_some (if few then Some number else None) ≡ true
found true number is = refl
found false number is = absurd (cc)
