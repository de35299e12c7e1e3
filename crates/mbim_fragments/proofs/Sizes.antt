-- How many bytes the pieces of a body have.
use Rattle.std.proofs.Common.{◌≡◌, ℕ, zero, suc, ◌+◌, ◌-◌, ◌*◌, ◌/◌, ◌%◌, ◌<◌, ◌≤◌, min, max, List, ◌++◌, length, take, drop, map, refl, ◌∙◌, ap, ap₂, arith, length-append}
use Rattle.std.specs.List.{concat, range_with_len}
use Rattle.std.proofs.lemmas.Grind.{div_ceil_times}
use Rattle.std.proofs.lemmas.Nat.{mul-le}
use Rattle.std.proofs.lemmas.List.{length-take, length-drop, take_all, append-nil}
use Rattle.std.proofs.lemmas.List.FromFn.{map-range_with_len_more}
use Rattle.kit_bytes.proofs.Lists.{concat-push}
use Rattle.mbim_frame.specs.Writing.{fragment_text, unsplit}
use Rattle.mbim_fragments.specs.Splitting.{part_count, part_at, piece_at, split, split_size}
use Rattle.mbim_fragments.proofs.Pieces.{parts_hold_all}

module _ (kind number size : ℕ) (body : List ℕ) where
  abbrev piece : ℕ → List ℕ
  piece place = piece_at kind number size body place

  -- the pieces before this place
  abbrev pub pieces_before : ℕ → List ℕ
  pieces_before place = concat (map (piece_at kind number size body) (range_with_len 0 place))

  pub length-piece : (place : ℕ) → length (piece_at kind number size body place) ≡ 20 + min size (length body - place * size)
  length-piece place =
      let part : length (part_at size body place) ≡ min size (length body - place * size) = length-take size (drop (place * size) body) ∙ ap (min size) (length-drop (place * size) body) in
      omega (arith, part)

  pub one_piece_more : (place : ℕ) → pieces_before (place + 1) ≡ pieces_before place ++ piece place
  one_piece_more place = ap concat (map-range_with_len_more piece 0 place place (omega arith)) ∙ concat-push (map piece (range_with_len 0 place)) (piece place)

  pub length-before : (place : ℕ) → length (pieces_before place) ≡ min (place * size) (length body) + 20 * place
  length-before zero = omega arith
  length-before (suc place) =
      let before : length (pieces_before place) ≡ min (place * size) (length body) + 20 * place = length-before place in
      let one : length (pieces_before (place + 1)) ≡ length (pieces_before place) + length (piece place) = ap length (one_piece_more place) ∙ length-append (pieces_before place) (piece place) in
      let after : suc place ≡ place + 1 = omega arith in
      let next : length (pieces_before (suc place)) ≡ length (pieces_before (place + 1)) = ap (λ (n : ℕ). length (pieces_before n)) after in
      let product : suc place * size ≡ place * size + size = omega arith in
      omega (arith, before, one, next, product, length-piece place)

  -- with the next piece they have no more than all of them
  pub next_fits : (place : ℕ) → place < part_count size (length body) → length (pieces_before place) + length (piece place) ≤ length body + 20 * part_count size (length body)
  next_fits place within =
      let product : (place + 1) * size ≡ place * size + size = omega arith in
      omega (arith, within, product, length-before place, length-piece place)

  pub length-all : 0 < size → length (pieces_before (part_count size (length body))) ≡ length body + 20 * part_count size (length body)
  length-all some = omega (arith, parts_hold_all size (length body) some, length-before (part_count size (length body)))

pub length-split : (kind number longest : ℕ) (body : List ℕ) → 64 ≤ longest → length (split kind number longest body) ≡ split_size longest (length body)
length-split kind number longest body least = length-all kind number (longest - 20) body (omega (arith, least))

-- ---- the most that they may have ----

few_parts : (count size length : ℕ) → count * size < length + size → 44 ≤ size → length ≤ 65536 → count ≤ 1490
few_parts zero size length few least short = omega arith
few_parts (suc count) size length few least short =
    let product : suc count * size ≡ count * size + size = omega arith in
    omega (arith, few, product, mul-le count 44 count size (omega arith) least, short)

pub split_fits : (longest length : ℕ) → 64 ≤ longest → length ≤ 65536 → split_size longest length ≤ 95336
split_fits longest length least short =
    let size = longest - 20 in
    let some : 0 < longest - 20 = omega (arith, least) in
    let enough : 44 ≤ longest - 20 = omega (arith, least) in
    let few : length / size + min 1 (length % size) ≤ 1490 = few_parts (length / size + min 1 (length % size)) size length (div_ceil_times length size some).1 enough short in
    omega (arith, few, short)

-- ---- a body in one piece ----

pub one_part : (size length : ℕ) → 0 < size → length ≤ size → part_count size length ≡ 1
one_part size length some short = by (length / size + min 1 (length % size)) (div_ceil_times length size some).1
  where
    by : (count : ℕ) → count * size < length + size → max 1 count ≡ 1
    by zero few = refl
    by (suc zero) few = refl
    by (suc (suc count)) few =
        let product : suc (suc count) * size ≡ count * size + size + size = omega arith in
        absurd (omega (arith, few, product, short))

pub split_is_unsplit : (kind number longest : ℕ) (body : List ℕ) → 64 ≤ longest → length body ≤ longest - 20 → split kind number longest body ≡ unsplit kind number body
split_is_unsplit kind number longest body least short =
    let size = longest - 20 in
    let one : part_count size (length body) ≡ 1 = one_part size (length body) (omega (arith, least)) short in
    let start : 0 * size ≡ 0 = omega arith in
    let part : part_at size body 0 ≡ body = ap (λ (n : ℕ). take size (drop n body)) start ∙ take_all size body short in
    ap (λ (n : ℕ). concat (map (piece_at kind number size body) (range_with_len 0 n))) one
    ∙ append-nil (piece_at kind number size body 0)
    ∙ ap₂ (λ (n : ℕ) (xs : List ℕ). fragment_text (record { kind = kind; number = number; total = n; current = 0 }) xs) one part
