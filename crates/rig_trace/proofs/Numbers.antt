-- Numbers of what a client said, and of what it takes.
use Rattle.std.proofs.Common.{◌≡◌, ℕ, ◌≤◌, Bool, true, false, ◌==◌, if◌then◌else◌, refl, ap, sym, ◌∙◌, arith}
use Rattle.std.proofs.lemmas.Bool.{eqb-true}

-- a client that said nothing has said nothing when it joins
pub no_more_said : (c d : ℕ) (count : ℕ → ℕ) → count c ≡ 0 → (if c == d then 0 else count d) ≡ count d
no_more_said c d count none =
    let step : (b : Bool) → (c == d) ≡ b → (if b then 0 else count d) ≡ count d = elim [ true ↦ λ is. sym none ∙ ap count (eqb-true c d is) | false ↦ λ isnt. refl ] in step (c == d) refl

-- who isn't there takes nothing
pub within_if : (b : Bool) (count waiting : ℕ) → count ≤ (if b then waiting else 0) → count ≤ waiting
within_if true count waiting within = within
within_if false count waiting within = omega (arith, within)
