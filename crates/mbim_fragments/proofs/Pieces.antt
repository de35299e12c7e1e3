-- The pieces of a body give it back.
use Rattle.std.proofs.Common.{◌≡◌, ℕ, zero, suc, ◌+◌, ◌-◌, ◌*◌, ◌/◌, ◌%◌, ◌^◌, ◌<◌, ◌≤◌, min, max, ◌==◌, true, List, [], ◌∷◌, ◌++◌, length, take, drop, map, replicate, sym, ◌∙◌, ap, ap₂, arith, length-append}
use Rattle.std.specs.Prelude.{nat_lt}
use Rattle.std.specs.List.{range_with_len}
use Rattle.std.proofs.Math.Seq.{take-add}
use Rattle.std.proofs.lemmas.Grind.{div_ceil_times}
use Rattle.std.proofs.lemmas.Nat.{mul-le}
use Rattle.std.proofs.lemmas.Bool.{eq-eqb, lt-ltb, and_from}
use Rattle.std.proofs.lemmas.List.{length-take, take_all}
use Rattle.std.proofs.lemmas.List.FromFn.{length-map-range_with_len, map-range_with_len_more}
use Rattle.mbim_frame.specs.declared.head.MHead.{MHead}
use Rattle.mbim_frame.specs.declared.fragment.FragmentHead.{FragmentHead}
use Rattle.mbim_frame.specs.Head.{number_of}
use Rattle.mbim_frame.specs.Fragment.{total_of, current_of, body_of}
use Rattle.mbim_frame.specs.Laws.{FragmentReadsBack}
use Rattle.mbim_frame.proofs.Written.{fragment_is_read}
use Rattle.mbim_fragments.specs.Runs.{Joining, More, Whole, joined, is_due, joining, run_with, run_after, run_from, joinings_from}
use Rattle.mbim_fragments.specs.Splitting.{part_count, part_at, piece_at}
use Rattle.mbim_fragments.specs.Laws.{PiecesGiveTheBody}
use Rattle.mbim_fragments.proofs.Joining.{joined-push, joining-more, joining-whole}

-- ---- how many parts there are ----

-- the parts have room for all bytes
pub parts_hold_all : (size length : ℕ) → 0 < size → length ≤ part_count size length * size
parts_hold_all size length some =
    let enough = (div_ceil_times length size some).0 in
    let least : length / size + min 1 (length % size) ≤ part_count size length = omega arith in
    omega (arith, enough, mul-le (length / size + min 1 (length % size)) size (part_count size length) size least (omega arith))

pub part_count_fits : (size length : ℕ) → 44 ≤ size → size ≤ 4076 → length < 2 ^ 32 → part_count size length < 2 ^ 32
part_count_fits size length least most below =
    let count = length / size + min 1 (length % size) in
    let few : count * size < length + size = (div_ceil_times length size (omega (arith, least))).1 in
    let many : count * 44 ≤ count * size = mul-le count 44 count size (omega arith) least in
    omega (arith, few, many, below, most)

module _ (kind number size : ℕ) (body : List ℕ) (kind_fits : kind < 2 ^ 32) (number_fits : number < 2 ^ 32) (least : 44 ≤ size) (most : size ≤ 4076) (short : length body < 2 ^ 32) where
  abbrev total : ℕ
  total = part_count size (length body)

  abbrev part : ℕ → List ℕ
  part place = part_at size body place

  abbrev piece : ℕ → List ℕ
  piece place = piece_at kind number size body place

  -- the pieces before a place
  abbrev front : ℕ → List (List ℕ)
  front place = map piece (range_with_len 0 place)

  pub piece_reads : (place : ℕ) → place < total → FragmentReadsBack (record { kind = kind; number = number; total = total; current = place }) (part place)
  piece_reads place within =
      let total_fits = part_count_fits size (length body) least most short in
      fragment_is_read (record { kind = kind; number = number; total = total; current = place }) (part place)
      (record { kind = kind_fits; number = number_fits; total = total_fits; current = omega (arith, within, total_fits) })
      (omega (arith, most, length-take size (drop (place * size) body)))

  number_is : (place : ℕ) → place < total → number_of (piece place) ≡ number
  number_is place within = ap (λ (h : MHead). h.number) (piece_reads place within).head

  total_is : (place : ℕ) → place < total → total_of (piece place) ≡ total
  total_is place within = ap (λ (h : FragmentHead). h.total) (piece_reads place within).place

  current_is : (place : ℕ) → place < total → current_of (piece place) ≡ place
  current_is place within = ap (λ (h : FragmentHead). h.current) (piece_reads place within).place

  front-more : (place : ℕ) → front (place + 1) ≡ front place ++ piece place ∷ []
  front-more place = map-range_with_len_more piece 0 place place (omega arith)

  -- they carry the front of the body
  joined-front : (place : ℕ) → place ≤ total → joined (front place) ≡ take (place * size) body
  joined-front zero within = let none : 0 ≡ 0 * size = omega arith in ap (λ (n : ℕ). take n body) none
  joined-front (suc place) within =
      let next : suc place ≡ place + 1 = omega arith in
      ap (λ (n : ℕ). joined (front n)) next ∙ ap joined (front-more place) ∙ joined-push (front place) (piece place)
      ∙ ap₂ (λ (xs ys : List ℕ). xs ++ ys) (joined-front place (omega (arith, within))) (piece_reads place (omega (arith, within))).body
      ∙ sym (take-add (place * size) size body)
      ∙ ap (λ (n : ℕ). take n body) (omega arith)

  joined-with : (place : ℕ) → place < total → joined (front place) ++ body_of (piece place) ≡ take ((place + 1) * size) body
  joined-with place within = sym (ap joined (front-more place) ∙ joined-push (front place) (piece place)) ∙ joined-front (place + 1) (omega (arith, within))

  -- ---- each piece is due ----

  due : (place : ℕ) → place < total → is_due (front place) (piece place) ≡ true
  due zero within = and_from (current_of (piece 0) == 0) (nat_lt 0 (total_of (piece 0))) (eq-eqb _ _ (current_is 0 within)) (lt-ltb _ _ (rw (total_is 0 within) within))
  due (suc place) within =
      let first : 0 < total = omega (arith, within) in
      let number_same = eq-eqb (number_of (piece (suc place))) (number_of (piece 0)) (number_is (suc place) within ∙ sym (number_is 0 first)) in
      let total_same = eq-eqb (total_of (piece (suc place))) (total_of (piece 0)) (total_is (suc place) within ∙ sym (total_is 0 first)) in
      and_from _ _ (and_from _ _ number_same total_same) (eq-eqb _ _ (current_is (suc place) within ∙ sym (length-map-range_with_len piece 0 (suc place))))

  module _ (longest : ℕ) (fits : length body ≤ longest) where
    within_longest : (place : ℕ) → place < total → length (joined (front place)) + length (body_of (piece place)) ≤ longest
    within_longest place within =
        omega (arith, fits, ap length (joined-with place within), length-append (joined (front place)) (body_of (piece place)), length-take ((place + 1) * size) body)

    more : (place : ℕ) → place + 1 < total → joining longest (front place) (piece place) ≡ More
    more place within =
        let inside : place < total = omega (arith, within) in
        joining-more longest (front place) (piece place) (due place inside) (within_longest place inside)
        (omega (arith, within, length-map-range_with_len piece 0 place, total_is place inside))

    whole : (place : ℕ) → place + 1 ≡ total → joining longest (front place) (piece place) ≡ Whole body
    whole place last =
        let inside : place < total = omega (arith, last) in
        joining-whole longest (front place) (piece place) (due place inside) (within_longest place inside)
        (omega (arith, last, length-map-range_with_len piece 0 place, total_is place inside))
        ∙ ap Whole (joined-with place inside ∙ ap (λ (n : ℕ). take (n * size) body) last ∙ take_all (total * size) body (parts_hold_all size (length body) (omega (arith, least))))

    -- ---- the pieces from a place on ----

    record GivesFrom (place count : ℕ) : Type 0 where
      each : joinings_from longest (front place) (map piece (range_with_len place (suc count))) ≡ replicate count More ++ Whole body ∷ []
      closed : run_from longest (front place) (map piece (range_with_len place (suc count))) ≡ []

    gives_from : (count place : ℕ) → place + suc count ≡ total → GivesFrom place count
    unfolding run_from joinings_from
    gives_from zero place last =
        let is = whole place last in
        record {
          each = ap (λ (j : Joining). j ∷ []) is;
          closed = ap (run_with (front place) (piece place)) is;
        }
    gives_from (suc count) place more_due =
        let is = more place (omega (arith, more_due)) in
        let next = gives_from count (place + 1) (omega (arith, more_due)) in
        let moved : run_after longest (front place) (piece place) ≡ front (place + 1) = ap (run_with (front place) (piece place)) is ∙ sym (front-more place) in
        let behind : List (List ℕ) = map piece (range_with_len (place + 1) (suc count)) in
        record {
          each = ap₂ (λ (j : Joining) (l : List Joining). j ∷ l) is (ap (λ (run : List (List ℕ)). joinings_from longest run behind) moved ∙ next.each);
          closed = ap (λ (run : List (List ℕ)). run_from longest run behind) moved ∙ next.closed;
        }

pub pieces_give_the_body : PiecesGiveTheBody
pieces_give_the_body longest kind number max body kind_fits number_fits least most fits short =
    let size = max - 20 in
    let count = part_count size (length body) in
    let piece = piece_at kind number size body in
    let gives = gives_from kind number size body kind_fits number_fits (omega (arith, least)) (omega (arith, most)) short longest fits (count - 1) 0 (omega arith) in
    let again : count ≡ suc (count - 1) = omega arith in
    record {
      each =
          ap (λ (n : ℕ). joinings_from longest [] (map piece (range_with_len 0 n))) again
          ∙ gives.each
          ∙ ap (λ (n : ℕ). replicate (n - 1) More ++ Whole body ∷ []) (sym (length-map-range_with_len piece 0 count));
      closed = ap (λ (n : ℕ). run_from longest [] (map piece (range_with_len 0 n))) again ∙ gives.closed;
    }
