-- Each piece but the last is full.
use Rattle.std.proofs.Common.{◌≡◌, ℕ, ◌+◌, ◌-◌, ◌*◌, ◌/◌, ◌%◌, ◌<◌, ◌≤◌, min, List, [], length, map, get_or, All, sym, ◌∙◌, ap, subst, arith}
use Rattle.std.specs.List.{range_with_len}
use Rattle.std.proofs.lemmas.Grind.{div_ceil_times}
use Rattle.std.proofs.lemmas.Nat.{mul-le}
use Rattle.std.proofs.lemmas.List.FromFn.{length-map-range_with_len, get_or-map-range_with_len}
use Rattle.mbim_fragments.specs.Splitting.{part_count, piece_at, pieces}
use Rattle.mbim_fragments.specs.Laws.{PiecesAreFilled}
use Rattle.mbim_fragments.proofs.Sizes.{length-piece}

module _ (kind number size : ℕ) (body : List ℕ) (some : 0 < size) where
  abbrev total : ℕ
  total = part_count size (length body)

  abbrev piece : ℕ → List ℕ
  piece place = piece_at kind number size body place

  -- the parts up to the last but one are in the body
  inside : (place : ℕ) → place + 1 < total → (place + 1) * size ≤ length body
  inside place before =
      let count = length body / size + min 1 (length body % size) in
      let few : count * size < length body + size = (div_ceil_times (length body) size some).1 in
      let many : (place + 1 + 1) * size ≤ count * size = mul-le (place + 1 + 1) size count size (omega (arith, before)) (omega arith) in
      omega (arith, few, many)

  within : All (λ p. length p ≤ 20 + size) (map piece (range_with_len 0 total))
  within place other below =
      let at : place < total = subst (λ (n : ℕ). place < n) (length-map-range_with_len piece 0 total) below in
      subst (λ (p : List ℕ). length p ≤ 20 + size) (sym (get_or-map-range_with_len piece 0 total place place other at (omega arith))) (omega (arith, length-piece kind number size body place))

  full : (place : ℕ) → place + 1 < length (map piece (range_with_len 0 total)) → length (get_or (map piece (range_with_len 0 total)) place []) ≡ 20 + size
  full place below =
      let before : place + 1 < total = subst (λ (n : ℕ). place + 1 < n) (length-map-range_with_len piece 0 total) below in
      ap length (get_or-map-range_with_len piece 0 total place place [] (omega (arith, before)) (omega arith)) ∙ omega (arith, length-piece kind number size body place, inside place before)

pub pieces_are_filled : PiecesAreFilled
pieces_are_filled kind number max body least =
    let again : 20 + (max - 20) ≡ max = omega (arith, least) in
    let all = pieces kind number max body in
    record {
      within = subst (λ (n : ℕ). All (λ p. length p ≤ n) all) again (within kind number (max - 20) body (omega (arith, least)));
      full = λ place below. full kind number (max - 20) body (omega (arith, least)) place below ∙ again;
    }
