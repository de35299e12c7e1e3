-- Fields that count the elements of lists are told by the lists.
use Rattle.std.proofs.Common.{◌≡◌, ℕ, ◌+◌, ◌<◌, ◌==◌, ◌⊎◌, inl, inr, Bool, true, false, true≢false, List, [], ◌∷◌, ◌++◌, length, get_or, refl, sym, ap, ap₂, ◌∙◌, subst, arith}
use Rattle.std.proofs.Math.Seq.{get_or-append_seam}
use Rattle.std.proofs.lemmas.Bool.{and_parts, or_cases}
use Rattle.std.proofs.lemmas.Bool.Decides.{nat_tests}
use Rattle.std.proofs.lemmas.List.{get_or_append_left, length-append}
use Rattle.mbim_fields.specs.Layout.{u32, u64, uuid, ipv4, ipv6, prefixed_ipv4, prefixed_ipv6, in_place, text, binary, structure, Form, one, each, run, perhaps, Layout, no_fields, field}
use Rattle.mbim_fields.specs.Value.{Value, number, uuid_of, octets, text_of, absent, elements, members, list_of, count_of, count_in, room}
use Rattle.mbim_fields.specs.WellMade.{is_count as is_number, has_count, is_good_item, is_good_form, are_good_fields}
use Rattle.mbim_fields.specs.Fields.{IsAt, FormStands, FieldsStand}
use Rattle.mbimcli_print.specs.Printed.{is_counted_by, is_count}

-- values are the same, but for those that count
abbrev pub Agree : Layout → ℕ → List Value → List Value → Type 0
Agree (field name form more) place (v ∷ vs) (w ∷ ws) = (is_count place more ≡ false → v ≡ w) × Agree more (place + 1) vs ws
Agree _ place vs ws = Unit {0}

same_place : (q p : ℕ) → (q == p) ≡ true → q ≡ p
same_place q p is = grind (arith, nat_tests, is)

-- ---- forms ----

never : {A : Type 0} → false ≡ true → A
never is = absurd (true≢false (sym is))

number_form : (form : Form) → is_number form ≡ true → form ≡ one (in_place u32)
number_form (one (in_place u32)) is = refl
number_form (one (in_place u64)) is = never is
number_form (one (in_place uuid)) is = never is
number_form (one (in_place ipv4)) is = never is
number_form (one (in_place ipv6)) is = never is
number_form (one (in_place prefixed_ipv4)) is = never is
number_form (one (in_place prefixed_ipv6)) is = never is
number_form (one text) is = never is
number_form (one binary) is = never is
number_form (one (structure layout)) is = never is
number_form (each place item) is = never is
number_form (run place fixed) is = never is
number_form (perhaps fixed) is = never is

-- a list is no number
no_number : (form : Form) (p : ℕ) → is_counted_by p form ≡ true → is_number form ≡ false
no_number (one item) p is = never is
no_number (each place item) p is = refl
no_number (run place fixed) p is = refl
no_number (perhaps fixed) p is = never is

counted_number : (form : Form) (before : List Form) (p : ℕ) → is_counted_by p form ≡ true → is_good_form form before ≡ true → is_number (get_or before p (perhaps u32)) ≡ true
counted_number (one item) before p is good = never is
counted_number (each q item) before p is good = subst (λ (n : ℕ). is_number (get_or before n (perhaps u32)) ≡ true) (same_place q p is) (and_parts (has_count before q) (is_good_item item) good).0
counted_number (run q fixed) before p is good = subst (λ (n : ℕ). is_number (get_or before n (perhaps u32)) ≡ true) (same_place q p is) good
counted_number (perhaps fixed) before p is good = never is

-- a field that counts is a number
known_count : (more : Layout) (before : List Form) (p : ℕ) → p < length before → is_count p more ≡ true → are_good_fields more before ≡ true → is_number (get_or before p (perhaps u32)) ≡ true
known_count no_fields before p less is good = never is
known_count (field name form more) before p less is good =
    let g = and_parts (is_good_form form before) (are_good_fields more (before ++ form ∷ [])) good in
    let long = length-append before (form ∷ []) in
    let later : is_count p more ≡ true → is_number (get_or before p (perhaps u32)) ≡ true =
    λ there. ap is_number (sym (get_or_append_left before (form ∷ []) (perhaps u32) p less)) ∙ known_count more (before ++ form ∷ []) p (omega (arith, less, long)) there g.1 in
    by (or_cases (is_counted_by p form) (is_count p more) is) (λ here. counted_number form before p here g.0) later
  where
    by : {A B C : Type 0} → A ⊎ B → (A → C) → (B → C) → C
    by (inl a) left right = left a
    by (inr b) left right = right b

at_end : (forms : List Form) (form : Form) (place : ℕ) → length forms ≡ place → get_or (forms ++ form ∷ []) place (perhaps u32) ≡ form
at_end forms form place is = subst (λ (n : ℕ). get_or (forms ++ form ∷ []) n (perhaps u32) ≡ form) is (get_or-append_seam forms form [] (perhaps u32))

value_at_end : (values : List Value) (value : Value) (place : ℕ) → length values ≡ place → count_in (values ++ value ∷ []) place ≡ count_of value
value_at_end values value place is = subst (λ (n : ℕ). count_in (values ++ value ∷ []) n ≡ count_of value) is (ap count_of (get_or-append_seam values value [] absent))

-- the form of a field that counts
counts_as : (form : Form) (forms : List Form) (more : Layout) (place : ℕ) → length forms ≡ place → is_count place more ≡ true → are_good_fields more (forms ++ form ∷ []) ≡ true → is_number form ≡ true
counts_as form forms more place is counts good =
    let long = length-append forms (form ∷ []) in
    ap is_number (sym (at_end forms form place is)) ∙ known_count more (forms ++ form ∷ []) place (omega (arith, long, is)) counts good

-- so a list doesn't count
uncounted : (form : Form) (forms : List Form) (more : Layout) (place p : ℕ) → length forms ≡ place → is_counted_by p form ≡ true → are_good_fields more (forms ++ form ∷ []) ≡ true → (b : Bool) → is_count place more ≡ b → b ≡ false
uncounted form forms more place p is listed good false counts = refl
uncounted form forms more place p is listed good true counts = sym (counts_as form forms more place is counts good) ∙ no_number form p listed

-- ---- values ----

abbrev length_in : Value → ℕ
length_in (elements values) = length (list_of values)
length_in _ = 0

listed_count : (form : Form) (whole : List ℕ) (before : List Value) (value : Value) (at p : ℕ) → FormStands form whole before value at → is_counted_by p form ≡ true → length_in value ≡ count_in before p
listed_count (one item) whole before value at p stands is = never is
listed_count (perhaps fixed) whole before value at p stands is = never is
listed_count (each q item) whole before (elements values) at p stands is = stands.0 ∙ ap (count_in before) (same_place q p is)
listed_count (each q item) whole before (number n) at p stands is = absurd stands
listed_count (each q item) whole before (uuid_of bytes) at p stands is = absurd stands
listed_count (each q item) whole before (octets bytes) at p stands is = absurd stands
listed_count (each q item) whole before (text_of chars) at p stands is = absurd stands
listed_count (each q item) whole before absent at p stands is = absurd stands
listed_count (each q item) whole before (members values) at p stands is = absurd stands
listed_count (run q fixed) whole before (elements values) at p stands is = stands.0 ∙ ap (count_in before) (same_place q p is)
listed_count (run q fixed) whole before (number n) at p stands is = absurd stands
listed_count (run q fixed) whole before (uuid_of bytes) at p stands is = absurd stands
listed_count (run q fixed) whole before (octets bytes) at p stands is = absurd stands
listed_count (run q fixed) whole before (text_of chars) at p stands is = absurd stands
listed_count (run q fixed) whole before absent at p stands is = absurd stands
listed_count (run q fixed) whole before (members values) at p stands is = absurd stands

numbers_same : (form : Form) (v w : Value) (whole other : List ℕ) (before behind : List Value) (at place : ℕ) → form ≡ one (in_place u32) → FormStands form whole before v at → FormStands form other behind w place → count_of v ≡ count_of w → v ≡ w
numbers_same form v w whole other before behind at place is stands also same =
    let a : IsAt u32 v whole at = subst (λ (f : Form). FormStands f whole before v at) is stands in
    let b : IsAt u32 w other place = subst (λ (f : Form). FormStands f other behind w place) is also in
    a.is ∙ ap number (ap count_of (sym a.is) ∙ same ∙ ap count_of b.is) ∙ sym b.is

module _ (whole other : List ℕ) where
  -- what is counted by a field is as much in both
  same_count : (more : Layout) (forms : List Form) (before behind vs ws : List Value) (at there place p : ℕ) → length forms ≡ place → length before ≡ place → length behind ≡ place → p < place
      → is_count p more ≡ true → are_good_fields more forms ≡ true → FieldsStand more whole before vs at → FieldsStand more other behind ws there → Agree more place vs ws → count_in before p ≡ count_in behind p
  same_count no_fields forms before behind vs ws at there place p forms_are before_are behind_are less is good stands also agree = never is
  same_count (field name form more) forms before behind [] ws at there place p forms_are before_are behind_are less is good stands also agree = absurd stands
  same_count (field name form more) forms before behind (v ∷ vs) [] at there place p forms_are before_are behind_are less is good stands also agree = absurd also
  same_count (field name form more) forms before behind (v ∷ vs) (w ∷ ws) at there place p forms_are before_are behind_are less is good stands also agree =
      let g = and_parts (is_good_form form forms) (are_good_fields more (forms ++ form ∷ [])) good in
      let forms_long = length-append forms (form ∷ []) in
      let before_long = length-append before (v ∷ []) in
      let behind_long = length-append behind (w ∷ []) in
      let here : is_counted_by p form ≡ true → count_in before p ≡ count_in behind p =
      λ listed.
      sym (listed_count form whole before v at p stands.1 listed) ∙ ap length_in (agree.0 (uncounted form forms more place p forms_are listed g.1 (is_count place more) refl))
      ∙ listed_count form other behind w there p also.1 listed in
      let later : is_count p more ≡ true → count_in before p ≡ count_in behind p =
      λ counts.
      sym (ap count_of (get_or_append_left before (v ∷ []) absent p (omega (arith, less, before_are))))
      ∙ same_count more (forms ++ form ∷ []) (before ++ v ∷ []) (behind ++ w ∷ []) vs ws (at + room form before) (there + room form behind) (place + 1) p (omega (arith, forms_long, forms_are)) (omega (arith, before_long, before_are))
      (omega (arith, behind_long, behind_are)) (omega (arith, less)) counts g.1 stands.2 also.2 agree.1
      ∙ ap count_of (get_or_append_left behind (w ∷ []) absent p (omega (arith, less, behind_are))) in
      by (or_cases (is_counted_by p form) (is_count p more) is) here later
    where
      by : {A B C : Type 0} → A ⊎ B → (A → C) → (B → C) → C
      by (inl a) left right = left a
      by (inr b) left right = right b

  -- so all values are the same
  pub all_same : (layout : Layout) (forms : List Form) (before behind vs ws : List Value) (at there place : ℕ) → length forms ≡ place → length before ≡ place → length behind ≡ place
      → are_good_fields layout forms ≡ true → FieldsStand layout whole before vs at → FieldsStand layout other behind ws there → Agree layout place vs ws → vs ≡ ws
  all_same no_fields forms before behind [] [] at there place forms_are before_are behind_are good stands also agree = refl
  all_same no_fields forms before behind [] (w ∷ ws) at there place forms_are before_are behind_are good stands also agree = absurd also
  all_same no_fields forms before behind (v ∷ vs) ws at there place forms_are before_are behind_are good stands also agree = absurd stands
  all_same (field name form more) forms before behind [] ws at there place forms_are before_are behind_are good stands also agree = absurd stands
  all_same (field name form more) forms before behind (v ∷ vs) [] at there place forms_are before_are behind_are good stands also agree = absurd also
  all_same (field name form more) forms before behind (v ∷ vs) (w ∷ ws) at there place forms_are before_are behind_are good stands also agree =
      let g = and_parts (is_good_form form forms) (are_good_fields more (forms ++ form ∷ [])) good in
      let forms_long = length-append forms (form ∷ []) in
      let before_long = length-append before (v ∷ []) in
      let behind_long = length-append behind (w ∷ []) in
      let forms_next : length (forms ++ form ∷ []) ≡ place + 1 = omega (arith, forms_long, forms_are) in
      let before_next : length (before ++ v ∷ []) ≡ place + 1 = omega (arith, before_long, before_are) in
      let behind_next : length (behind ++ w ∷ []) ≡ place + 1 = omega (arith, behind_long, behind_are) in
      let rest = all_same more (forms ++ form ∷ []) (before ++ v ∷ []) (behind ++ w ∷ []) vs ws (at + room form before) (there + room form behind) (place + 1) forms_next before_next behind_next g.1 stands.2 also.2 agree.1 in
      let counts : is_count place more ≡ true → v ≡ w =
      λ is.
      numbers_same form v w whole other before behind at there (number_form form (counts_as form forms more place forms_are is g.1)) stands.1 also.1
      (sym (value_at_end before v place before_are)
      ∙ same_count more (forms ++ form ∷ []) (before ++ v ∷ []) (behind ++ w ∷ []) vs ws (at + room form before) (there + room form behind) (place + 1) place forms_next before_next behind_next (omega arith) is g.1 stands.2 also.2 agree.1
      ∙ value_at_end behind w place behind_are) in
      ap₂ (λ (x : Value) (l : List Value). x ∷ l) (either (is_count place more) refl counts agree.0) rest
    where
      either : {A : Type 0} {c : Bool} (b : Bool) → c ≡ b → (c ≡ true → A) → (c ≡ false → A) → A
      either true is left right = left is
      either false is left right = right is
