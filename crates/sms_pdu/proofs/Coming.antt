-- A message that is made is read.
use Rattle.std.proofs.Common.{◌≡◌, ℕ, zero, suc, ◌+◌, ◌-◌, ◌*◌, ◌/◌, ◌%◌, ◌^◌, ◌<◌, ◌≤◌, nat_lt, nat_le, Bool, true, false, not, ◌&&◌, cond, IsTrue, List, [], ◌∷◌, ◌++◌, length, refl, ap, ap₂, ◌∙◌, arith, Option, Some, None, Ok, append_assoc, map}
use Rattle.std.specs.List.{list_all}
use Rattle.std.proofs.lemmas.List.{length-map}
use Rattle.std.proofs.lemmas.Bool.Decides.{nat_tests}
use Rattle.std.specs.Str.{all_scalars}
use Rattle.gsm_text.specs.Alphabet.{chars_of, codes_of, first_outside}
use Rattle.gsm_text.specs.Packing.{digits_of, number_of, octets_for, pack, unpack}
use Rattle.sms_pdu.specs.declared.pdu.Pdu.{Pdu}
use Rattle.sms_pdu.specs.declared.pdu.Part.{Part}
use Rattle.sms_pdu.specs.declared.pdu.Body.{Body}
use Rattle.sms_pdu.specs.declared.pdu.Body.TheVariants.{Written}
use Rattle.sms_pdu.specs.Coding.{octets_of}
use Rattle.sms_pdu.specs.Fields.{time_place, address_place, address_size, data_place, data_size, fault_in, header_size, is_submit}
use Rattle.sms_pdu.specs.Address.{address_text}
use Rattle.sms_pdu.specs.Header.{part_in}
use Rattle.sms_pdu.specs.Reading.{pdu_of, address_in, body_in, body_text, part_told, pdu, run, time_in}
use Rattle.sms_pdu.specs.Time.{time_text}
use Rattle.sms_pdu.specs.Parts.{data_of, digits_of as digits_in, front, half, header, is_digit, number_kind, semi_octets, ucs2}
use Rattle.sms_pdu.proofs.Telling.{length-semi_octets, number_back}
use Rattle.sms_pdu.proofs.UserData.{codes_back, ucs2_back, unpacked_behind}
use Rattle.sms_pdu.proofs.Laying.{coding_is, count_is, header_at, header_run, data_are, faultless, halves_are, laid, size_is, submitted, type_is}

module _ (first count type : ℕ) (halves : List ℕ) (alphabet size : ℕ) (octets : List ℕ) (submit : first % 4 ≡ 1) (no_validity : first / 8 % 4 ≡ 0) (half_octets : length halves ≡ (count + 1) / 2)
    (whole : octets_of alphabet size ≡ length octets) where
  abbrev pub message : List ℕ
  message = laid first count type halves alphabet size octets

  -- what is read of a message that is laid out so
  pub is_read : (header : ℕ) → header_size message ≡ header → header ≤ length octets → (address : List ℕ) → address_text count type halves ≡ address → (part : Option Part) → part_told message ≡ part
      → (body : Body) → body_text alphabet size header octets ≡ body → pdu message ≡ Ok (record { deliver = false; address = address; time = []; part = part; body = body })
  is_read header header_is room address address_is part part_is body body_is =
      let whole_one : fault_in message ≡ None = faultless first count type halves alphabet size octets submit no_validity half_octets whole (omega (arith, header_is, room)) in
      let is : is_submit message ≡ true = submitted first count type halves alphabet size octets submit no_validity half_octets in
      let address_one : address_in message ≡ address =
      ap₂ (λ (n t : ℕ). address_text n t (run message (address_place message + 2) (address_size message))) (count_is first count type halves alphabet size octets submit no_validity half_octets) (type_is first count type halves alphabet size octets submit no_validity half_octets)
      ∙ ap (address_text count type) (halves_are first count type halves alphabet size octets submit no_validity half_octets) ∙ address_is
      in
      let body_one : body_in message ≡ body =
      ap₂ (λ (c n : ℕ). body_text c n (header_size message) (run message (data_place message) (data_size message))) (coding_is first count type halves alphabet size octets submit no_validity half_octets) (size_is first count type halves alphabet size octets submit no_validity half_octets)
      ∙ ap₂ (body_text alphabet size) header_is (data_are first count type halves alphabet size octets submit no_validity half_octets whole) ∙ body_is
      in
      let time_one : time_in message ≡ [] = ap (λ (submitted_one : Bool). cond submitted_one [] (time_text (run message (time_place message) 7))) is in
      let same : pdu_of message ≡ record { deliver = false; address = address; time = []; part = part; body = body } =
      ap₂ (λ (submitted_one : Bool) (a : List ℕ). record { deliver = not submitted_one; address = a; time = time_in message; part = part_told message; body = body_in message }) is address_one
      ∙ ap₂ (λ (t : List ℕ) (p : Option Part). record { deliver = false; address = address; time = t; part = p; body = body_in message }) time_one part_is
      ∙ ap (λ (b : Body). record { deliver = false; address = address; time = []; part = part; body = b }) body_one
      in
      rw whole_one (ap (λ (one : Pdu). Ok one) same)

-- ---- the part ----

part_back : (reference total place : ℕ) → 1 ≤ place → place ≤ total → part_in (0 ∷ 3 ∷ reference ∷ total ∷ place ∷ []) ≡ Some (record { reference = reference; wide = false; total = total; place = place })
part_back reference total place from to =
    let low : nat_le 1 place ≡ true = grind (arith, nat_tests) in
    let high : nat_le place total ≡ true = grind (arith, nat_tests) in
    ap₂ (λ (a b : Bool). cond (a && b) (Some (record { reference = reference; wide = false; total = total; place = place })) None) low high

-- ---- the data ----

length-digits_of : (base count number : ℕ) → length (digits_of base count number) ≡ count
length-digits_of base zero number = refl
length-digits_of base (suc count) number = let rest = length-digits_of base count (number / base) in omega (arith, rest)

length-pack : (codes : List ℕ) (fill : ℕ) → length (pack codes fill) ≡ (fill + 7 * length codes + 7) / 8
length-pack codes fill = length-digits_of 256 (octets_for (fill + 7 * length codes)) (2 ^ fill * number_of 128 codes)

-- what characters must be, to be sent so
abbrev pub IsSendable : (coded : Bool) (piece : List ℕ) → Type 0
IsSendable true piece = first_outside piece ≡ None
IsSendable false piece = IsTrue (all_scalars piece)

module _ (number : List ℕ) (digits : list_all is_digit (digits_in number) ≡ true) (reference total : ℕ) where
  halves : List ℕ
  halves = semi_octets (map half (digits_in number))

  halves_length : length halves ≡ (length (digits_in number) + 1) / 2
  unfolding halves
  halves_length = length-semi_octets (map half (digits_in number)) ∙ ap (λ (n : ℕ). (n + 1) / 2) (length-map (digits_in number) half)

  as_laid : (coded : Bool) (size : ℕ) (octets : List ℕ)
      → front number coded total ++ size ∷ octets ≡ laid (cond (nat_lt 1 total) 0x41 0x01) (length (digits_in number)) (number_kind number) halves (cond coded 0 8) size octets
  unfolding halves
  as_laid coded size octets =
      ap (λ (l : List ℕ). 0 ∷ cond (nat_lt 1 total) 0x41 0x01 ∷ 0 ∷ length (digits_in number) ∷ number_kind number ∷ l) (append_assoc (semi_octets (map half (digits_in number))) (0 ∷ cond coded 0 8 ∷ []) (size ∷ octets))

  back : address_text (length (digits_in number)) (number_kind number) halves ≡ number
  unfolding halves
  back = number_back number digits

  -- of a text in one message
  module _ (alone : nat_lt 1 total ≡ false) where
    as_laid_alone : (coded : Bool) (size : ℕ) (octets : List ℕ) → front number coded total ++ size ∷ octets ≡ laid 0x01 (length (digits_in number)) (number_kind number) halves (cond coded 0 8) size octets
    as_laid_alone coded size octets =
        as_laid coded size octets ∙ ap (λ (several : Bool). laid (cond several 0x41 0x01) (length (digits_in number)) (number_kind number) halves (cond coded 0 8) size octets) alone

    pub alone_is_read : (coded : Bool) (place : ℕ) (piece : List ℕ) → IsSendable coded piece
        → pdu (front number coded total ++ data_of coded (header reference total place) piece) ≡ Ok (record { deliver = false; address = number; time = []; part = None; body = Written piece })
    alone_is_read true place piece sendable =
        let length_one = length-pack (codes_of piece) 0 in
        let size : 0 + length (codes_of piece) ≡ length (codes_of piece) = omega arith in
        ap (λ (several : Bool). pdu (front number true total ++ data_of true (cond several (5 ∷ 0 ∷ 3 ∷ reference ∷ total ∷ place ∷ []) []) piece)) alone
        ∙ ap pdu (as_laid_alone true (0 + length (codes_of piece)) (pack (codes_of piece) 0))
        ∙ is_read 1 (length (digits_in number)) (number_kind number) halves 0 (0 + length (codes_of piece)) (pack (codes_of piece) 0) refl refl halves_length (omega (arith, length_one)) 0 refl (omega arith) number back None refl
        (Written piece) (ap (λ (n : ℕ). Written (chars_of (unpack (pack (codes_of piece) 0) 0 n))) size ∙ ap (λ (l : List ℕ). Written l) (codes_back piece 0 (omega arith) sendable))
    alone_is_read false place piece sendable =
        ap (λ (several : Bool). pdu (front number false total ++ data_of false (cond several (5 ∷ 0 ∷ 3 ∷ reference ∷ total ∷ place ∷ []) []) piece)) alone
        ∙ ap pdu (as_laid_alone false (0 + length (ucs2 piece)) (ucs2 piece))
        ∙ is_read 1 (length (digits_in number)) (number_kind number) halves 8 (0 + length (ucs2 piece)) (ucs2 piece) refl refl halves_length (omega arith) 0 refl (omega arith) number back None refl
        (Written piece) (ucs2_back piece sendable)

  -- of one in several
  module _ (several : nat_lt 1 total ≡ true) (small : (reference < 256) × (total < 256)) where
    as_laid_among : (coded : Bool) (size : ℕ) (octets : List ℕ) → front number coded total ++ size ∷ octets ≡ laid 0x41 (length (digits_in number)) (number_kind number) halves (cond coded 0 8) size octets
    as_laid_among coded size octets =
        as_laid coded size octets ∙ ap (λ (test : Bool). laid (cond test 0x41 0x01) (length (digits_in number)) (number_kind number) halves (cond coded 0 8) size octets) several

    module _ (place : ℕ) (from : 1 ≤ place) (to : place ≤ total) where
      module _ (alphabet size : ℕ) (behind : List ℕ) (whole : octets_of alphabet size ≡ 6 + length behind) where
        octets : List ℕ
        octets = 5 ∷ 0 ∷ 3 ∷ reference ∷ total ∷ place ∷ behind

        bytes : List ℕ
        bytes = laid 0x41 (length (digits_in number)) (number_kind number) halves alphabet size octets

        among_is_read : (body : Body) → body_text alphabet size 6 octets ≡ body → pdu bytes ≡ Ok (record { deliver = false; address = number; time = []; part = Some (record { reference = reference; wide = false; total = total; place = place }); body = body })
        unfolding bytes octets
        among_is_read body body_is =
            let whole_is : octets_of alphabet size ≡ length octets = omega (arith, whole) in
            let header_is : header_size bytes ≡ 6 = ap (λ (n : ℕ). 1 + n) (header_at 0x41 (length (digits_in number)) (number_kind number) halves alphabet size octets refl refl halves_length whole_is) in
            let part_is : part_told bytes ≡ Some (record { reference = reference; wide = false; total = total; place = place }) =
            ap (λ (n : ℕ). part_in (run bytes (data_place bytes + 1) (n - 1))) header_is
            ∙ ap part_in (header_run 0x41 (length (digits_in number)) (number_kind number) halves alphabet size octets refl refl halves_length whole_is 5) ∙ part_back reference total place from to
            in
            is_read 0x41 (length (digits_in number)) (number_kind number) halves alphabet size octets refl refl halves_length whole_is 6 header_is (omega arith) number back (Some (record { reference = reference; wide = false; total = total; place = place })) part_is
            body body_is

      header_bytes : (5 < 256) × (0 < 256) × (3 < 256) × (reference < 256) × (total < 256) × (place < 256)
      header_bytes = (omega arith, omega arith, omega arith, small.0, small.1, omega (arith, small.1, to))

      pub among_are_read : (coded : Bool) (piece : List ℕ) → IsSendable coded piece
          → pdu (front number coded total ++ data_of coded (header reference total place) piece)
          ≡ Ok (record { deliver = false; address = number; time = []; part = Some (record { reference = reference; wide = false; total = total; place = place }); body = Written piece })
      unfolding octets bytes
      among_are_read true piece sendable =
          let length_one = length-pack (codes_of piece) 1 in
          ap (λ (test : Bool). pdu (front number true total ++ data_of true (cond test (5 ∷ 0 ∷ 3 ∷ reference ∷ total ∷ place ∷ []) []) piece)) several
          ∙ ap pdu (as_laid_among true (7 + length (codes_of piece)) (5 ∷ 0 ∷ 3 ∷ reference ∷ total ∷ place ∷ pack (codes_of piece) 1))
          ∙ among_is_read 0 (7 + length (codes_of piece)) (pack (codes_of piece) 1) (omega (arith, length_one)) (Written piece) (
          ap (λ (l : List ℕ). Written (chars_of l)) (unpacked_behind 5 0 3 reference total place header_bytes (pack (codes_of piece) 1) (length (codes_of piece)))
          ∙ ap (λ (l : List ℕ). Written l) (codes_back piece 1 (omega arith) sendable)
          )
      among_are_read false piece sendable =
          ap (λ (test : Bool). pdu (front number false total ++ data_of false (cond test (5 ∷ 0 ∷ 3 ∷ reference ∷ total ∷ place ∷ []) []) piece)) several
          ∙ ap pdu (as_laid_among false (6 + length (ucs2 piece)) (5 ∷ 0 ∷ 3 ∷ reference ∷ total ∷ place ∷ ucs2 piece))
          ∙ among_is_read 8 (6 + length (ucs2 piece)) (ucs2 piece) (omega arith) (Written piece) (ucs2_back piece sendable)
