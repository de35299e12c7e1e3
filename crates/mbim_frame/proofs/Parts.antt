-- A part that is written over a list behind its front.
use Rattle.std.proofs.Common.{◌≡◌, ℕ, List, ◌++◌, length, drop, ap₂}
use Rattle.std.proofs.lemmas.List.{take_at, drop_at}
use borrow.Rule.Slice.PartMut.{put_mid}

pub placed : (front part rest : List ℕ) (at count : ℕ) → length front ≡ at → put_mid at count (front ++ rest) part ≡ front ++ (part ++ drop count rest)
placed front part rest at count long = ap₂ (λ (before after : List ℕ). before ++ (part ++ drop count after)) (take_at front rest at long) (drop_at front rest at long)
