-- A list in 20 places grows.
use Rattle.std.proofs.Common.{◌≡◌, ℕ, ◌+◌, ◌-◌, ◌≤◌, List, length, drop, replicate, sym, ◌∙◌, ap, arith, length-append}
use Rattle.std.proofs.lemmas.List.{length-take-le, drop-drop, drop-replicate}
use Rattle.std.proofs.lemmas.Slice.{drop-put_mid}
use borrow.Rule.Slice.PartMut.{put_mid}
use Rattle.qmux_frame.specs.Padding.{IsPadded}

left_behind : (count more : ℕ) → 20 - count - more ≡ 20 - (count + more)
left_behind count more = omega arith

zeros-behind : (count more : ℕ) (places : List ℕ) → drop count places ≡ replicate (20 - count) 0 → drop (count + more) places ≡ replicate (20 - (count + more)) 0
zeros-behind count more places zeros =
    sym (drop-drop more count places) ∙ ap (drop more) zeros ∙ drop-replicate more (20 - count) 0 ∙ ap (λ (n : ℕ). replicate n 0) (left_behind count more)

-- a part written behind the list is all that changes
pub IsPadded-put : (count more : ℕ) (places part : List ℕ) → IsPadded count places → length part ≡ more → count + more ≤ length places
    → IsPadded (count + more) (put_mid count (count + more - count) places part)
IsPadded-put count more places part is long fits =
    let front = length-take-le count places is.within in
    let kept = drop-put_mid count (count + more - count) places part (count + more) (omega arith) is.within (omega arith) in
    record {
      within = omega (arith, front, long, length-append {A = ℕ});
      zeros = kept ∙ zeros-behind count more places is.zeros;
    }
