-- Texts that spell UUIDs.
use Rattle.std.proofs.Common.{◌≡◌, ℕ, List, Option, Some, None, Result, Ok, Err, refl, sym, true≢false}
use Rattle.std.specs.Prelude.{◌↔◌, IfOk}
use Rattle.std.specs.Result.{IsOk, result_ok}

-- what is parsed where it parses
pub ok-parsed : {E : Type 0} (p : Option (List ℕ)) (r : Result (List ℕ) E) → (IsOk r ↔ ((u : List ℕ) × (p ≡ Some u))) → IfOk r (λ u. Some u ≡ p) → result_ok r ≡ p
ok-parsed p (Ok u) ok bytes = bytes
ok-parsed None (Err e) ok bytes = refl
ok-parsed (Some u) (Err e) ok bytes = absurd (true≢false (sym (ok.1 (u, refl))))
