-- A text in pieces, character by character.
use Rattle.std.proofs.Common.{◌≡◌, ℕ, suc, ◌+◌, ◌*◌, ◌<◌, ◌≤◌, nat_le, Bool, true, false, not, ◌&&◌, cond, Some, List, [], ◌∷◌, ◌++◌, length, take, drop, get_or, refl, ap, sym, ◌∙◌, arith, length-append, take-append-drop}
use Rattle.std.specs.List.{flat_map, list_all, position_from}
use Rattle.std.specs.Prelude.{is_none}
use Rattle.std.proofs.lemmas.Iterator.Adapters.{position_from-zero}
use Rattle.gsm_text.specs.Alphabet.{has_codes}
use Rattle.std.proofs.lemmas.List.{drop_more, flat_map_more, take_more}
use Rattle.std.proofs.lemmas.List.Concat.{flat_map-append}
use Rattle.std.proofs.lemmas.Bool.Decides.{nat_tests}
use Rattle.sms_pdu.specs.Parts.{big_endian, fits, is_coded, pieces, pieces_from, units, units_of}

module _ (coded : Bool) where
  units_of-push : (chars : List ℕ) (char : ℕ) → units_of coded (chars ++ char ∷ []) ≡ units_of coded chars ++ units coded char
  units_of-push chars char = sym (flat_map_more (units coded) [] chars char)

  pub size-push : (chars : List ℕ) (char : ℕ) → length (units_of coded (chars ++ char ∷ [])) ≡ length (units_of coded chars) + length (units coded char)
  size-push chars char = ap length (units_of-push chars char) ∙ length-append (units_of coded chars) (units coded char)

  pub size-take : (text : List ℕ) (index char : ℕ) → index < length text → char ≡ get_or text index char
      → length (units_of coded (take (index + 1) text)) ≡ length (units_of coded (take index text)) + length (units coded char)
  size-take text index char within is =
      ap (λ (l : List ℕ). length (units_of coded l)) (take_more text index char within ∙ ap (λ (c : ℕ). take index text ++ c ∷ []) (sym is)) ∙ size-push (take index text) char

  pub size-take-le : (text : List ℕ) (index : ℕ) → length (units_of coded (take index text)) ≤ length (units_of coded text)
  size-take-le text index =
      let whole = ap length (ap (units_of coded) (sym (take-append-drop index text)) ∙ flat_map-append (units coded) (take index text) (drop index text)) in
      omega (arith, whole, length-append (units_of coded (take index text)) (units_of coded (drop index text)))

  module _ (most : ℕ) where
    -- a piece is begun, and so many characters of the text are behind it
    pub record AreCounted (text : List ℕ) (index count size : ℕ) : Type 0 where
      pub begun : List ℕ
      pub size_is : size ≡ length (units_of coded begun)
      pub counted : length (pieces coded most text) + 1 ≡ count + length (pieces_from coded most begun (drop index text))

    pub AreCounted-none : (text : List ℕ) → AreCounted text 0 1 0
    AreCounted-none text = record { begun = []; size_is = refl; counted = omega arith }

    pub fits-push : (begun : List ℕ) (char size more : ℕ) → size ≡ length (units_of coded begun) → more ≡ length (units coded char) → fits coded most (begun ++ char ∷ []) ≡ nat_le (size + more) most
    fits-push begun char size more size_is more_is =
        let whole : length (units_of coded (begun ++ char ∷ [])) ≡ size + more = omega (arith, size-push begun char, size_is, more_is) in
        ap (λ (n : ℕ). nat_le n most) whole

    pub AreCounted-same : (text : List ℕ) (index count size char more : ℕ) → AreCounted text index count size → index < length text → char ≡ get_or text index char → more ≡ length (units coded char)
        → size + more ≤ most → AreCounted text (index + 1) count (size + more)
    AreCounted-same text index count size char more counted within is more_is room =
        let test : nat_le (size + more) most ≡ true = grind (arith, nat_tests) in
        let front : drop index text ≡ char ∷ drop (index + 1) text = drop_more text index char within ∙ ap (λ (c : ℕ). c ∷ drop (index + 1) text) (sym is) in
        record {
          begun = counted.begun ++ char ∷ [];
          size_is = omega (arith, size-push counted.begun char, counted.size_is, more_is);
          counted = counted.counted ∙ rw (front, fits-push counted.begun char size more counted.size_is more_is, test) refl;
        }

    pub AreCounted-next : (text : List ℕ) (index count size char more : ℕ) → AreCounted text index count size → index < length text → char ≡ get_or text index char → more ≡ length (units coded char)
        → most < size + more → AreCounted text (index + 1) (count + 1) (0 + more)
    AreCounted-next text index count size char more counted within is more_is full =
        let test : nat_le (size + more) most ≡ false = grind (arith, nat_tests) in
        let front : drop index text ≡ char ∷ drop (index + 1) text = drop_more text index char within ∙ ap (λ (c : ℕ). c ∷ drop (index + 1) text) (sym is) in
        let one = size-push [] char in
        let rest : length (pieces_from coded most counted.begun (drop index text)) ≡ suc (length (pieces_from coded most (char ∷ []) (drop (index + 1) text))) =
        rw (front, fits-push counted.begun char size more counted.size_is more_is, test) refl
        in
        record { begun = char ∷ []; size_is = omega (arith, one, more_is); counted = omega (arith, counted.counted, rest) }

pub not_le : (a b : ℕ) → b < a → false ≡ nat_le a b
not_le a b less = grind (arith, nat_tests)

-- ---- whether all characters have codes ----

coded_from : (from : ℕ) (text : List ℕ) → is_none (position_from (λ char. not (has_codes char)) from text) ≡ list_all has_codes text
coded_from from [] = refl
coded_from from (char ∷ text) = by (has_codes char) (coded_from (from + 1) text)
  where
    by : (b : Bool) → is_none (position_from (λ char. not (has_codes char)) (from + 1) text) ≡ list_all has_codes text
        → is_none (cond (not b) (Some from) (position_from (λ char. not (has_codes char)) (from + 1) text)) ≡ (b && list_all has_codes text)
    by true more = more
    by false more = refl

pub coded_is : (text : List ℕ) → list_all has_codes text ≡ is_coded text
coded_is text = sym (ap is_none (position_from-zero (λ char. not (has_codes char)) text) ∙ coded_from 0 text)

-- ---- octets of units ----

pub length-big_endian : (units : List ℕ) → length (flat_map big_endian units) ≡ 2 * length units
length-big_endian [] = refl
length-big_endian (unit ∷ units) = let rest = length-big_endian units in omega arith
