-- A list in 20 places, with zeros behind it.
use Rattle.std.proofs.Common.{◌≡◌, ℕ, ◌-◌, ◌≤◌, List, ◌++◌, length, take, drop, replicate, sym, ◌∙◌, ap, take-append-drop}
use Rattle.std.proofs.lemmas.List.{length-take-le}

abbrev pub padded : List ℕ → List ℕ
padded list = list ++ replicate (20 - length list) 0

pub record IsPadded (count : ℕ) (places : List ℕ) : Type 0 where
  pub within : count ≤ length places
  pub zeros : drop count places ≡ replicate (20 - count) 0

-- a list so padded gives its places back
pub padded-take : {Inside : Type 0} (made : List ℕ → ℕ → Inside) {count : ℕ} {places : List ℕ} → IsPadded count places
    → made (padded (take count places)) (length (take count places)) ≡ made places count
padded-take made {count = count} {places = places} is =
    let long = length-take-le count places is.within in
    let whole = ap (λ (n : ℕ). take count places ++ replicate (20 - n) 0) long ∙ ap (λ (l : List ℕ). take count places ++ l) (sym is.zeros) ∙ take-append-drop count places in
    ap (λ (l : List ℕ). made l (length (take count places))) whole ∙ ap (made places) long
