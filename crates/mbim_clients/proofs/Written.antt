-- The bytes that stand at the front of a buffer.
use Rattle.std.proofs.Common.{◌≡◌, ℕ, List, ◌++◌, length, take, drop, ap, ◌∙◌}
use Rattle.std.proofs.Math.Seq.{take-append_seam}

pub front_is : (front new old bytes : List ℕ) (count : ℕ) → count ≡ length front → new ≡ front ++ drop count old → bytes ≡ new → take count bytes ≡ front
front_is front new old bytes count is there same =
    ap (take count) (same ∙ there) ∙ ap (λ (n : ℕ). take n (front ++ drop count old)) is ∙ take-append_seam front (drop count old)
