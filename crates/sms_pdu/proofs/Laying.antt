-- Where the fields of a message stand that is laid out as a SUBMIT without a validity.
use Rattle.std.proofs.Common.{◌≡◌, ℕ, zero, suc, ◌+◌, ◌-◌, ◌/◌, ◌%◌, ◌==◌, ◌≤◌, nat_lt, nat_le, Bool, true, false, ◌&&◌, cond, List, [], ◌∷◌, ◌++◌, length, take, drop, slice_index, refl, ap, ap₂, sym, ◌∙◌, arith, Option, Some, None, find, option_map, length-append, append_assoc}
use Rattle.std.specs.List.{AllByRecursion}
use Rattle.std.specs.Option.{option_or}
use Rattle.std.proofs.lemmas.List.{get_or-append-add, take_all}
use Rattle.std.proofs.lemmas.Bool.Decides.{nat_tests}
use Rattle.sms_pdu.specs.declared.fields.Field.{Field}
use Rattle.sms_pdu.specs.declared.pdu.PduFault.TheVariants.{Kind, Short}
use Rattle.sms_pdu.specs.Coding.{octets_of}
use Rattle.sms_pdu.specs.Fields.{address_count, address_place, address_size, coding, data_count, data_place, data_size, fault_in, fields, first_place, header_size, is_short, is_submit, kind, length_place, protocol_place, reference_size, short_field, short_header, time_place, time_size, validity_size}
use Rattle.sms_pdu.specs.Reading.{run}

none_is_found : {X : Type 0} (p : X → Bool) (xs : List X) → AllByRecursion (λ x. p x ≡ false) xs → find p xs ≡ None
none_is_found p [] all = refl
none_is_found p (x ∷ xs) all = rw all.0 (none_is_found p xs all.1)

drop-exactly : {X : Type 0} (xs ys : List X) → drop (length xs) (xs ++ ys) ≡ ys
drop-exactly [] ys = refl
drop-exactly (x ∷ xs) ys = drop-exactly xs ys

drop-next : (n : ℕ) (xs : List ℕ) → drop (n + 1) xs ≡ drop 1 (drop n xs)
drop-next zero xs = refl
drop-next (suc n) [] = let on : suc n + 1 ≡ suc (n + 1) = omega arith in rw on refl
drop-next (suc n) (x ∷ xs) = let on : suc n + 1 ≡ suc (n + 1) = omega arith in rw on (drop-next n xs)

not_kind : (test : Bool) → (test && false) ≡ false
not_kind true = refl
not_kind false = refl

module _ (first count type : ℕ) (halves : List ℕ) (alphabet size : ℕ) (octets : List ℕ) where
  abbrev pub laid : List ℕ
  laid = 0 ∷ first ∷ 0 ∷ count ∷ type ∷ halves ++ 0 ∷ alphabet ∷ size ∷ octets

  module _ (submit : first % 4 ≡ 1) (no_validity : first / 8 % 4 ≡ 0) (half_octets : length halves ≡ (count + 1) / 2) where
    pub submitted : is_submit laid ≡ true
    submitted = ap (λ (k : ℕ). k == 1) submit

    address_at : address_place laid ≡ 3
    address_at = ap (λ (is : Bool). 2 + cond is 1 0) submitted

    pub count_is : address_count laid ≡ count
    count_is = ap (slice_index laid) address_at

    pub type_is : slice_index laid (address_place laid + 1) ≡ type
    type_is = ap (λ (place : ℕ). slice_index laid (place + 1)) address_at

    halves_size : address_size laid ≡ length halves
    halves_size = ap (λ (n : ℕ). (n + 1) / 2) count_is ∙ sym half_octets

    pub halves_are : run laid (address_place laid + 2) (address_size laid) ≡ halves
    halves_are = ap₂ (λ (place s : ℕ). take s (drop (place + 2) laid)) address_at halves_size ∙ take-exactly halves (0 ∷ alphabet ∷ size ∷ octets)
      where
        take-exactly : (xs ys : List ℕ) → take (length xs) (xs ++ ys) ≡ xs
        take-exactly [] ys = refl
        take-exactly (x ∷ xs) ys = ap (λ (l : List ℕ). x ∷ l) (take-exactly xs ys)

    protocol_at : protocol_place laid ≡ 5 + length halves
    protocol_at = ap₂ (λ (place s : ℕ). place + 2 + s) address_at halves_size

    behind : (k : ℕ) → slice_index laid (5 + length halves + k) ≡ slice_index (0 ∷ alphabet ∷ size ∷ octets) k
    behind k =
        let place : 5 + length halves + k ≡ length (0 ∷ first ∷ 0 ∷ count ∷ type ∷ halves) + k = omega arith in
        ap (slice_index laid) place ∙ get_or-append-add (0 ∷ first ∷ 0 ∷ count ∷ type ∷ halves) (0 ∷ alphabet ∷ size ∷ octets) k 0

    pub coding_is : coding laid ≡ alphabet
    coding_is = ap (λ (place : ℕ). slice_index laid (place + 1)) protocol_at ∙ behind 1

    no_time : time_size laid ≡ 0
    no_time = ap (λ (is : Bool). cond is (validity_size (first / 8 % 4)) 7) submitted ∙ ap validity_size no_validity

    length_at : length_place laid ≡ 5 + length halves + 2
    length_at = ap₂ (λ (place s : ℕ). place + 2 + s) protocol_at no_time ∙ omega arith

    pub size_is : data_count laid ≡ size
    size_is = ap (slice_index laid) length_at ∙ behind 2

    pub data_at : data_place laid ≡ 5 + length halves + 3
    data_at = ap (λ (place : ℕ). place + 1) length_at ∙ omega arith

    module _ (whole : octets_of alphabet size ≡ length octets) where
      size_of_data : data_size laid ≡ length octets
      size_of_data = ap₂ octets_of coding_is size_is ∙ whole

      dropped : drop (5 + length halves + 3) laid ≡ octets
      dropped =
          let all : 5 + length halves + 3 ≡ length (0 ∷ first ∷ 0 ∷ count ∷ type ∷ (halves ++ 0 ∷ alphabet ∷ size ∷ [])) = omega (arith, length-append halves (0 ∷ alphabet ∷ size ∷ [])) in
          ap₂ (λ (n : ℕ) (l : List ℕ). drop n l) all (ap (λ (l : List ℕ). 0 ∷ first ∷ 0 ∷ count ∷ type ∷ l) (sym (append_assoc halves (0 ∷ alphabet ∷ size ∷ []) octets)))
          ∙ drop-exactly (0 ∷ first ∷ 0 ∷ count ∷ type ∷ (halves ++ 0 ∷ alphabet ∷ size ∷ [])) octets

      pub data_are : run laid (data_place laid) (data_size laid) ≡ octets
      data_are = ap₂ (λ (place s : ℕ). take s (drop place laid)) data_at size_of_data ∙ ap (take (length octets)) dropped ∙ take_all (length octets) octets (omega arith)

      -- the header's length, and what is behind it
      pub header_at : slice_index laid (data_place laid) ≡ slice_index octets 0
      header_at = ap (slice_index laid) data_at ∙ behind 3

      pub header_run : (n : ℕ) → run laid (data_place laid + 1) n ≡ take n (drop 1 octets)
      header_run n = ap (take n) (drop-next (data_place laid) laid ∙ ap (drop 1) (ap (λ (place : ℕ). drop place laid) data_at ∙ dropped))

      length_is : length laid ≡ 5 + length halves + 3 + length octets
      length_is = let all = length-append halves (0 ∷ alphabet ∷ size ∷ octets) in omega (arith, all)

      fits_in : (start field : ℕ) → start + field ≤ length laid → nat_lt (length laid - start) field ≡ false
      fits_in start field within = grind (arith, nat_tests)

      pub faultless : header_size laid ≤ length octets → fault_in laid ≡ None
      faultless header =
          let reference : reference_size laid ≡ 1 = ap (λ (is : Bool). cond is 1 0) submitted in
          let short : short_field laid ≡ None =
          none_is_found (is_short laid) (fields laid) (
            fits_in 0 1 (omega (arith, length_is)),
            (
              fits_in 1 0 (omega (arith, length_is)),
              (
                fits_in 1 1 (omega (arith, length_is)),
                (
                  fits_in 2 (reference_size laid) (omega (arith, length_is, reference)),
                  (
                    fits_in (address_place laid) 1 (omega (arith, length_is, address_at)),
                    (
                      fits_in (address_place laid + 1) 1 (omega (arith, length_is, address_at)),
                      (
                        fits_in (address_place laid + 2) (address_size laid) (omega (arith, length_is, address_at, halves_size)),
                        (
                          fits_in (protocol_place laid) 1 (omega (arith, length_is, protocol_at)),
                          (
                            fits_in (protocol_place laid + 1) 1 (omega (arith, length_is, protocol_at)),
                            (
                              fits_in (time_place laid) (time_size laid) (omega (arith, length_is, protocol_at, no_time)),
                              (
                                fits_in (length_place laid) 1 (omega (arith, length_is, length_at)),
                                (
                                  fits_in (data_place laid) (data_size laid) (omega (arith, length_is, data_at, size_of_data)),
                                  tt,
                                ),
                              ),
                            ),
                          ),
                        ),
                      ),
                    ),
                  ),
                ),
              ),
            ),
          )
          in
          let no_header : nat_lt (data_size laid) (header_size laid) ≡ false = let room : header_size laid ≤ data_size laid = omega (arith, header, size_of_data) in grind (arith, nat_tests) in
          let other : (nat_lt (first_place laid) (length laid) && nat_le 2 (kind laid)) ≡ false = ap (λ (k : ℕ). nat_lt (first_place laid) (length laid) && nat_le 2 k) submit ∙ not_kind (nat_lt (first_place laid) (length laid)) in
          ap (λ (test : Bool). cond test (Some Kind) (option_or (option_map (λ (field : Field). Short field.start) (short_field laid)) (short_header laid))) other
          ∙ ap (λ (found : Option Field). option_or (option_map (λ (field : Field). Short field.start) found) (short_header laid)) short
          ∙ ap (λ (test : Bool). cond test (Some (Short (data_place laid))) None) no_header
