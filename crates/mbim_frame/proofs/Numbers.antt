-- Numbers of four bytes read as they were written, wherever they stand.
use Rattle.std.proofs.Common.{◌≡◌, ℕ, zero, suc, ◌+◌, ◌*◌, ◌^◌, ◌<◌, List, ◌++◌, length, refl, ap, ap₂, ◌∙◌, arith}
use Rattle.std.specs.Prelude.{slice_index}
use Rattle.std.proofs.lemmas.List.{get_or-append-add}
use Rattle.kit_bytes.specs.Numbers.{number_at}
use Rattle.mbim_frame.specs.Numbers.{u32_at, u32_bytes}

pub u32_at-bytes : (n : ℕ) (rest : List ℕ) → n < 2 ^ 32 → u32_at (u32_bytes n ++ rest) 0 ≡ n
u32_at-bytes n rest below = omega (arith, below)

index-behind : (front rest : List ℕ) (n at : ℕ) → length front ≡ n → slice_index (front ++ rest) (n + at) ≡ slice_index rest at
index-behind front rest n at long = rw (← long) (get_or-append-add front rest at 0)

next : (n at : ℕ) → n + at + 1 ≡ n + (at + 1)
next n at = omega arith

-- behind a front
number_at-behind : (front rest : List ℕ) (n at count : ℕ) → length front ≡ n → number_at (front ++ rest) (n + at) count ≡ number_at rest at count
number_at-behind front rest n at zero long = refl
number_at-behind front rest n at (suc count) long =
    ap₂ (λ (x y : ℕ). x + 256 * y) (index-behind front rest n at long)
    (ap (λ (k : ℕ). number_at (front ++ rest) k count) (next n at) ∙ number_at-behind front rest n (at + 1) count long)

pub u32_at-behind : (front rest : List ℕ) (n at : ℕ) → length front ≡ n → u32_at (front ++ rest) (n + at) ≡ u32_at rest at
u32_at-behind front rest n at long = number_at-behind front rest n at 4 long
