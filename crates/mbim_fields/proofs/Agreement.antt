-- The values that bytes have in a layout are those that reading gives, and no others.
use Rattle.std.proofs.Common.{◌≡◌, ◌≢◌, ℕ, zero, suc, ◌+◌, ◌-◌, ◌*◌, ◌<◌, ◌≤◌, ◌⊎◌, inl, inr, Bool, true, false, IsTrue, List, [], ◌∷◌, ◌++◌, length, take, drop, slice_range, refl, sym, ◌∙◌, ap, subst, rules, arith, append_assoc, Ok, Err}
use Rattle.std.proofs.lemmas.List.{append-nil}
use Rattle.std.proofs.str.Laws.{order}
use Rattle.kit_bytes.specs.Numbers.{number_at}
use Rattle.kit_bytes.specs.Utf16.{is_utf16, utf16_text}
use Rattle.mbim_fields.specs.Layout.{Fixed, size, Item, in_place, text, binary, structure, width, Form, one, each, run, perhaps, Layout, no_fields, field}
use Rattle.mbim_fields.specs.Value.{Value, octets, text_of, absent, elements, members, Values, no_more, list_of, values_of, count_in, room}
use Rattle.mbim_fields.specs.Reading.{Read, and_then, within, fixed_at, run_at, Part, part_at, read_each, read_run, read_perhaps, text_in, read_item, read_form, read_fields, read}
use Rattle.mbim_fields.specs.Fields.{IsAt, PointsAt, StandInRow, Stands, FormStands, FieldsStand, Fields}
use Rattle.mbim_fields.specs.declared.fault.FieldFault.{FieldFault}
use Rattle.mbim_fields.specs.declared.fault.FieldFault.TheVariants.{OutOfRange, Lone, TooLarge, OutOfMemory}
use Rattle.mbim_fields.specs.Footprint.{footprint, footprint_limit}
use Rattle.mbim_fields.specs.Decoding.{Ends, IsRefused}
use Rattle.mbim_fields.proofs.Readings.{list_of-values_of, values_of-list_of}

-- ---- steps ----

within-is : {A : Type 0} (whole : List ℕ) (end place : ℕ) (r : Read A) → end ≤ length whole → within whole end place r ≡ r
within-is whole end place r fits = search rules

pub text_in-is : (bytes : List ℕ) (place : ℕ) → IsTrue (is_utf16 bytes) → text_in bytes place ≡ Ok (text_of (utf16_text bytes))
text_in-is bytes place is = search rules

pub slice-none : (whole : List ℕ) (at count : ℕ) → count ≡ 0 → slice_range whole at (at + count) ≡ []
slice-none whole at count none = let nothing : (at + count) - at ≡ 0 = omega (arith, none) in ap (λ (n : ℕ). take n (drop at whole)) nothing

pub zero_or : (n : ℕ) → (n ≡ 0) ⊎ (n ≢ 0)
zero_or zero = inl refl
zero_or (suc n) = inr (λ is. omega (arith, is))

pub part_at-none : (whole : List ℕ) (base at : ℕ) → number_at whole (at + 4) 4 ≡ 0 → part_at whole base at ≡ Ok (record { bytes = []; place = base + at })
part_at-none whole base at none = search rules

pub part_at-some : (whole : List ℕ) (base at : ℕ) → number_at whole (at + 4) 4 ≢ 0 → number_at whole at 4 + number_at whole (at + 4) 4 ≤ length whole
    → part_at whole base at ≡ Ok (record { bytes = slice_range whole (number_at whole at 4) (number_at whole at 4 + number_at whole (at + 4) 4); place = base + number_at whole at 4 })
part_at-some whole base at some fits = search rules

-- ---- what stands is read ----

record HasPart (Holds : List ℕ → Type 0) (whole : List ℕ) (base at : ℕ) : Type 0 where
  pub part : Part
  pub is : part_at whole base at ≡ Ok part
  pub holds : Holds part.bytes

part_at-is : (Holds : List ℕ → Type 0) (whole : List ℕ) (base at : ℕ) → PointsAt Holds whole at → HasPart Holds whole base at
part_at-is Holds whole base at points =
    let holds = rw (points.offset_is, points.size_is) at points.holds in
    elim (zero_or (number_at whole (at + 4) 4)) [
      | inl none ↦ record { part = _; is = part_at-none whole base at none; holds = subst Holds (slice-none whole (number_at whole at 4) (number_at whole (at + 4) 4) none) holds }
      | inr some ↦
          let fits : number_at whole at 4 + number_at whole (at + 4) 4 ≤ length whole =
          elim points.inside [ inl none ↦ absurd (some (sym points.size_is ∙ none)) | inr fits ↦ omega (arith, points.offset_is, points.size_is, fits) ] in
          record { part = _; is = part_at-some whole base at some fits; holds = holds }
    ]

abbrev Reads : (ℕ → Read Value) → (Value → ℕ → Type 0) → Type 0
Reads read Stands = (value : Value) (at : ℕ) → Stands value at → read at ≡ Ok value

each-is : (read : ℕ → Read Value) (Stands : Value → ℕ → Type 0) → Reads read Stands → (width : ℕ) (values : List Value) (count at : ℕ) (done : List Value) → length values ≡ count → StandInRow Stands width values at
    → read_each read width count at done ≡ Ok (done ++ values)
each-is read Stands reads width [] zero at done is row = ap (λ (l : List Value). Ok l) (sym (append-nil done))
each-is read Stands reads width [] (suc count) at done is row = absurd (omega (arith, is))
each-is read Stands reads width (value ∷ values) zero at done is row = absurd (omega (arith, is))
each-is read Stands reads width (value ∷ values) (suc count) at done is row =
    let here = reads value at row.0 in
    let more = each-is read Stands reads width values count (at + width) (done ++ value ∷ []) (omega (arith, is)) row.1 in
    rw here (more ∙ ap (λ (l : List Value). Ok l) (append_assoc done (value ∷ []) values))

run-is : (fixed : Fixed) (whole : List ℕ) (values : List Value) (at : ℕ) → StandInRow (λ value there. IsAt fixed value whole there) (size fixed) values at → values ≡ run_at fixed (length values) whole at
run-is fixed whole [] at row = refl
run-is fixed whole (value ∷ values) at row =
    ap (λ (v : Value). v ∷ values) row.0.is ∙ ap (λ (l : List Value). fixed_at fixed whole at ∷ l) (run-is fixed whole values (at + size fixed) row.1)

-- where a run ends
run-ends : (fixed : Fixed) (whole : List ℕ) (values : List Value) (at : ℕ) → StandInRow (λ value there. IsAt fixed value whole there) (size fixed) values at → 0 < length values → at + length values * size fixed ≤ length whole
run-ends fixed whole [] at row some = absurd (omega (arith, some))
run-ends fixed whole (value ∷ []) at row some = omega (arith, row.0.inside)
run-ends fixed whole (value ∷ more ∷ values) at row some =
    let rest = run-ends fixed whole (more ∷ values) (at + size fixed) row.1 (omega arith) in
    omega (arith, rest)

pub run-none : (fixed : Fixed) (whole : List ℕ) (count base at : ℕ) → count ≡ 0 → read_run fixed count whole base at ≡ Ok (elements no_more)
run-none fixed whole count base at none = search rules

pub run-some : (fixed : Fixed) (whole : List ℕ) (count base at : ℕ) → count ≢ 0 → number_at whole at 4 + count * size fixed ≤ length whole
    → read_run fixed count whole base at ≡ Ok (elements (values_of (run_at fixed count whole (number_at whole at 4))))
run-some fixed whole count base at some fits = search rules

pub run-past : (fixed : Fixed) (whole : List ℕ) (count base at : ℕ) → count ≢ 0 → length whole < number_at whole at 4 + count * size fixed → read_run fixed count whole base at ≡ Err (OutOfRange (base + at))
run-past fixed whole count base at some past = search rules

run-read : (fixed : Fixed) (whole : List ℕ) (values : List Value) (count base at : ℕ) → length values ≡ count → StandInRow (λ value there. IsAt fixed value whole there) (size fixed) values (number_at whole at 4)
    → read_run fixed count whole base at ≡ Ok (elements (values_of values))
run-read fixed whole [] count base at is row = run-none fixed whole count base at (sym is)
run-read fixed whole (value ∷ values) count base at is row =
    let ends = run-ends fixed whole (value ∷ values) (number_at whole at 4) row (omega arith) in
    let fits = subst (λ (n : ℕ). number_at whole at 4 + n * size fixed ≤ length whole) is ends in
    let values_are = subst (λ (n : ℕ). value ∷ values ≡ run_at fixed n whole (number_at whole at 4)) is (run-is fixed whole (value ∷ values) (number_at whole at 4) row) in
    run-some fixed whole count base at (λ none. omega (arith, is, none)) fits ∙ ap (λ (l : List Value). Ok (elements (values_of l))) (sym values_are)

pub perhaps-none : (fixed : Fixed) (whole : List ℕ) (base at : ℕ) → number_at whole at 4 ≡ 0 → read_perhaps fixed whole base at ≡ Ok absent
perhaps-none fixed whole base at none = search rules

pub perhaps-some : (fixed : Fixed) (whole : List ℕ) (base at : ℕ) → number_at whole at 4 ≢ 0 → number_at whole at 4 + size fixed ≤ length whole → read_perhaps fixed whole base at ≡ Ok (fixed_at fixed whole (number_at whole at 4))
perhaps-some fixed whole base at some fits = search rules

pub perhaps-past : (fixed : Fixed) (whole : List ℕ) (base at : ℕ) → number_at whole at 4 ≢ 0 → length whole < number_at whole at 4 + size fixed → read_perhaps fixed whole base at ≡ Err (OutOfRange (base + at))
perhaps-past fixed whole base at some past = search rules

mutual
  item-is : (item : Item) (whole : List ℕ) (base : ℕ) (value : Value) (at : ℕ) → Stands item whole value at → read_item item whole base at ≡ Ok value
  item-is (in_place fixed) whole base value at stands = ap (λ (v : Value). Ok v) (sym stands.is)
  item-is text whole base (text_of chars) at stands =
      let p = part_at-is (λ d. IsTrue (is_utf16 d) × (chars ≡ utf16_text d)) whole base at stands in
      rw p.is (text_in-is p.part.bytes (base + at) p.holds.0 ∙ ap (λ (c : List ℕ). Ok (text_of c)) (sym p.holds.1))
  item-is text whole base _ at stands = absurd stands
  item-is binary whole base (octets bytes) at stands =
      let p = part_at-is (λ d. bytes ≡ d) whole base at stands in
      rw p.is (ap (λ (b : List ℕ). Ok (octets b)) (sym p.holds))
  item-is binary whole base _ at stands = absurd stands
  item-is (structure layout) whole base (members values) at stands =
      let p = part_at-is (λ d. FieldsStand layout d [] (list_of values) 0) whole base at stands in
      let inner = fields-are layout p.part.bytes p.part.place [] (list_of values) 0 p.holds in
      rw (p.is, inner) (ap (λ (v : Values). Ok (members v)) (values_of-list_of values))
  item-is (structure layout) whole base _ at stands = absurd stands

  form-is : (form : Form) (whole : List ℕ) (base : ℕ) (before : List Value) (value : Value) (at : ℕ) → FormStands form whole before value at → read_form form whole base at before ≡ Ok value
  form-is (one item) whole base before value at stands = item-is item whole base value at stands
  form-is (each place item) whole base before (elements values) at stands =
      rw (each-is (read_item item whole base) (Stands item whole) (item-is item whole base) (width item) (list_of values) (count_in before place) at [] stands.0 stands.1)
      (ap (λ (v : Values). Ok (elements v)) (values_of-list_of values))
  form-is (each place item) whole base before _ at stands = absurd stands
  form-is (run place fixed) whole base before (elements values) at stands =
      run-read fixed whole (list_of values) (count_in before place) base at stands.0 stands.1 ∙ ap (λ (v : Values). Ok (elements v)) (values_of-list_of values)
  form-is (run place fixed) whole base before _ at stands = absurd stands
  form-is (perhaps fixed) whole base before value at (inl none) = perhaps-none fixed whole base at none.0 ∙ ap (λ (v : Value). Ok v) (sym none.1)
  form-is (perhaps fixed) whole base before value at (inr some) = perhaps-some fixed whole base at some.0 some.1.inside ∙ ap (λ (v : Value). Ok v) (sym some.1.is)

  fields-are : (layout : Layout) (whole : List ℕ) (base : ℕ) (before values : List Value) (at : ℕ) → FieldsStand layout whole before values at → read_fields layout whole base at before ≡ Ok (before ++ values)
  fields-are no_fields whole base before [] at stand = ap (λ (l : List Value). Ok l) (sym (append-nil before))
  fields-are no_fields whole base before (value ∷ values) at stand = absurd stand
  fields-are (field name form more) whole base before [] at stand = absurd stand
  fields-are (field name form more) whole base before (value ∷ values) at stand =
      let here = form-is form whole base before value at stand.1 in
      let rest = fields-are more whole base (before ++ value ∷ []) values (at + room form before) stand.2 in
      within-is whole (at + room form before) (base + at) _ stand.0
      ∙ (rw here (rest ∙ ap (λ (l : List Value). Ok l) (append_assoc before (value ∷ []) values)))

-- ---- what is read stands ----

pub and_then-ok : {A B : Type 0} (r : Read A) (next : A → Read B) (b : B) → and_then r next ≡ Ok b → (a : A) × (r ≡ Ok a) × (next a ≡ Ok b)
and_then-ok (Err fault) next b is = absurd cc
and_then-ok (Ok a) next b is = (a, refl, is)

pub Ok-same : {A : Type 0} (r : Read A) (a b : A) → r ≡ Ok a → r ≡ Ok b → a ≡ b
Ok-same r a b is also = let h = sym is ∙ also in cc

within-not : {A : Type 0} (whole : List ℕ) (end place : ℕ) (r : Read A) → length whole < end → within whole end place r ≡ Err (OutOfRange place)
within-not whole end place r past = search rules

pub within-ok : {A : Type 0} (whole : List ℕ) (end place : ℕ) (r : Read A) (a : A) → within whole end place r ≡ Ok a → (end ≤ length whole) × (r ≡ Ok a)
within-ok whole end place r a is = elim (order (length whole) end) [
  | inl past ↦ absurd (let h = sym (within-not whole end place r past) ∙ is in cc)
  | inr fits ↦ (fits, sym (within-is whole end place r fits) ∙ is)
]

pub true_or : (b : Bool) → (b ≡ true) ⊎ (b ≡ false)
true_or true = inl refl
true_or false = inr refl

text_in-not : (bytes : List ℕ) (place : ℕ) → is_utf16 bytes ≡ false → text_in bytes place ≡ Err (Lone place)
text_in-not bytes place isnt = search rules

pub text_in-ok : (bytes : List ℕ) (place : ℕ) (value : Value) → text_in bytes place ≡ Ok value → IsTrue (is_utf16 bytes) × (text_of (utf16_text bytes) ≡ value)
text_in-ok bytes place value is = elim (true_or (is_utf16 bytes)) [
  | inl utf16 ↦ (utf16, Ok-same _ _ _ (text_in-is bytes place utf16) is)
  | inr not ↦ absurd (let h = sym (text_in-not bytes place not) ∙ is in cc)
]

pub part_at-past : (whole : List ℕ) (base at : ℕ) → number_at whole (at + 4) 4 ≢ 0 → length whole < number_at whole at 4 + number_at whole (at + 4) 4 → part_at whole base at ≡ Err (OutOfRange (base + at))
part_at-past whole base at some past = search rules

part_at-ok : (Holds : List ℕ → Type 0) (whole : List ℕ) (base at : ℕ) (part : Part) → part_at whole base at ≡ Ok part → Holds part.bytes → PointsAt Holds whole at
part_at-ok Holds whole base at part is holds = elim (zero_or (number_at whole (at + 4) 4)) [
  | inl none ↦
      let same = Ok-same _ _ _ (part_at-none whole base at none) is in
      let bytes : part.bytes ≡ slice_range whole (number_at whole at 4) (number_at whole at 4 + number_at whole (at + 4) 4) =
      ap (λ (p : Part). p.bytes) (sym same) ∙ sym (slice-none whole (number_at whole at 4) (number_at whole (at + 4) 4) none) in
      record { offset = number_at whole at 4; size = number_at whole (at + 4) 4; offset_is = refl; size_is = refl; inside = inl none; holds = subst Holds bytes holds }
  | inr some ↦ elim (order (length whole) (number_at whole at 4 + number_at whole (at + 4) 4)) [
    | inl past ↦ absurd (let h = sym (part_at-past whole base at some past) ∙ is in cc)
    | inr fits ↦
        let same = Ok-same _ _ _ (part_at-some whole base at some fits) is in
        let bytes : part.bytes ≡ slice_range whole (number_at whole at 4) (number_at whole at 4 + number_at whole (at + 4) 4) = ap (λ (p : Part). p.bytes) (sym same) in
        record { offset = number_at whole at 4; size = number_at whole (at + 4) 4; offset_is = refl; size_is = refl; inside = inr fits; holds = subst Holds bytes holds }
  ]
]

abbrev Sound : (ℕ → Read Value) → (Value → ℕ → Type 0) → ℕ → ℕ → Type 0
Sound read Stands width limit = (value : Value) (at : ℕ) → at + width ≤ limit → read at ≡ Ok value → Stands value at

each-ok : (read : ℕ → Read Value) (Stands : Value → ℕ → Type 0) (width limit : ℕ) → Sound read Stands width limit → (count at : ℕ) (done all : List Value) → at + count * width ≤ limit → read_each read width count at done ≡ Ok all
    → (values : List Value) × (all ≡ done ++ values) × (length values ≡ count) × StandInRow Stands width values at
each-ok read Stands width limit sound zero at done all fits is = ([], sym (Ok-same _ done all refl is) ∙ sym (append-nil done), refl, tt)
each-ok read Stands width limit sound (suc count) at done all fits is =
    let one = and_then-ok (read at) (λ value. read_each read width count (at + width) (done ++ value ∷ [])) all is in
    let rest = each-ok read Stands width limit sound count (at + width) (done ++ one.0 ∷ []) all (omega (arith, fits)) one.2 in
    (one.0 ∷ rest.0, rest.1 ∙ append_assoc done (one.0 ∷ []) rest.0, omega (arith, rest.2), (sound one.0 at (omega (arith, fits)) one.1, rest.3))

run-ok : (fixed : Fixed) (whole : List ℕ) (count at : ℕ) → at + count * size fixed ≤ length whole → StandInRow (λ value there. IsAt fixed value whole there) (size fixed) (run_at fixed count whole at) at
run-ok fixed whole zero at fits = tt
run-ok fixed whole (suc count) at fits = (record { inside = omega (arith, fits); is = refl }, run-ok fixed whole count (at + size fixed) (omega (arith, fits)))

run-length : (fixed : Fixed) (whole : List ℕ) (count at : ℕ) → length (run_at fixed count whole at) ≡ count
run-length fixed whole zero at = refl
run-length fixed whole (suc count) at = omega (arith, run-length fixed whole count (at + size fixed))

run-sound : (fixed : Fixed) (whole : List ℕ) (count base at : ℕ) (value : Value) → read_run fixed count whole base at ≡ Ok value
    → (values : Values) × (value ≡ elements values) × (length (list_of values) ≡ count) × StandInRow (λ v there. IsAt fixed v whole there) (size fixed) (list_of values) (number_at whole at 4)
run-sound fixed whole count base at value is = elim (zero_or count) [
  | inl none ↦ (no_more, sym (Ok-same _ _ _ (run-none fixed whole count base at none) is), sym none, tt)
  | inr some ↦ elim (order (length whole) (number_at whole at 4 + count * size fixed)) [
    | inl past ↦ absurd (let h = sym (run-past fixed whole count base at some past) ∙ is in cc)
    | inr fits ↦
        let values = run_at fixed count whole (number_at whole at 4) in
        let listed = list_of-values_of values in (
          values_of values,
          sym (Ok-same _ _ _ (run-some fixed whole count base at some fits) is),
          ap length listed ∙ run-length fixed whole count (number_at whole at 4),
          subst (λ (l : List Value). StandInRow (λ v there. IsAt fixed v whole there) (size fixed) l (number_at whole at 4)) (sym listed) (run-ok fixed whole count (number_at whole at 4) fits),
        )
  ]
]

perhaps-sound : (fixed : Fixed) (whole : List ℕ) (base at : ℕ) (value : Value) → read_perhaps fixed whole base at ≡ Ok value
    → ((number_at whole at 4 ≡ 0) × (value ≡ absent)) ⊎ ((number_at whole at 4 ≢ 0) × IsAt fixed value whole (number_at whole at 4))
perhaps-sound fixed whole base at value is = elim (zero_or (number_at whole at 4)) [
  | inl none ↦ inl (none, sym (Ok-same _ _ _ (perhaps-none fixed whole base at none) is))
  | inr some ↦ elim (order (length whole) (number_at whole at 4 + size fixed)) [
    | inl past ↦ absurd (let h = sym (perhaps-past fixed whole base at some past) ∙ is in cc)
    | inr fits ↦ inr (some, record { inside = fits; is = sym (Ok-same _ _ _ (perhaps-some fixed whole base at some fits) is) })
  ]
]

mutual
  item-sound : (item : Item) (whole : List ℕ) (base : ℕ) → Sound (read_item item whole base) (Stands item whole) (width item) (length whole)
  item-sound (in_place fixed) whole base value at fits is = record { inside = fits; is = sym (Ok-same _ _ _ refl is) }
  item-sound text whole base value at fits is =
      let p = and_then-ok (part_at whole base at) (λ part. text_in part.bytes (base + at)) value is in
      let t = text_in-ok p.0.bytes (base + at) value p.2 in
      subst (λ (v : Value). Stands text whole v at) t.1 (part_at-ok (λ d. IsTrue (is_utf16 d) × (utf16_text p.0.bytes ≡ utf16_text d)) whole base at p.0 p.1 (t.0, refl))
  item-sound binary whole base value at fits is =
      let p = and_then-ok (part_at whole base at) (λ part. Ok (octets part.bytes)) value is in
      subst (λ (v : Value). Stands binary whole v at) (Ok-same _ _ _ refl p.2) (part_at-ok (λ d. p.0.bytes ≡ d) whole base at p.0 p.1 refl)
  item-sound (structure layout) whole base value at fits is =
      let p = and_then-ok (part_at whole base at) (λ part. and_then (read_fields layout part.bytes part.place 0 []) (λ values. Ok (members (values_of values)))) value is in
      let r = and_then-ok (read_fields layout p.0.bytes p.0.place 0 []) (λ values. Ok (members (values_of values))) value p.2 in
      let inner = fields-sound layout p.0.bytes p.0.place [] r.0 0 r.1 in
      let stand : FieldsStand layout p.0.bytes [] (list_of (values_of r.0)) 0 = subst (λ (l : List Value). FieldsStand layout p.0.bytes [] l 0) (sym inner.1 ∙ sym (list_of-values_of r.0)) inner.2 in
      subst (λ (v : Value). Stands (structure layout) whole v at) (Ok-same _ _ _ refl r.2) (part_at-ok (λ d. FieldsStand layout d [] (list_of (values_of r.0)) 0) whole base at p.0 p.1 stand)

  form-sound : (form : Form) (whole : List ℕ) (base : ℕ) (before : List Value) (value : Value) (at : ℕ) → at + room form before ≤ length whole → read_form form whole base at before ≡ Ok value → FormStands form whole before value at
  form-sound (one item) whole base before value at fits is = item-sound item whole base value at fits is
  form-sound (each place item) whole base before value at fits is =
      let r = and_then-ok (read_each (read_item item whole base) (width item) (count_in before place) at []) (λ values. Ok (elements (values_of values))) value is in
      let e = each-ok (read_item item whole base) (Stands item whole) (width item) (length whole) (item-sound item whole base) (count_in before place) at [] r.0 fits r.1 in
      let listed : list_of (values_of r.0) ≡ e.0 = list_of-values_of r.0 ∙ e.1 in
      subst (λ (v : Value). FormStands (each place item) whole before v at) (Ok-same _ _ _ refl r.2)
      (ap length listed ∙ e.2, subst (λ (l : List Value). StandInRow (Stands item whole) (width item) l at) (sym listed) e.3)
  form-sound (run place fixed) whole base before value at fits is =
      let r = run-sound fixed whole (count_in before place) base at value is in
      subst (λ (v : Value). FormStands (run place fixed) whole before v at) (sym r.1) (r.2, r.3)
  form-sound (perhaps fixed) whole base before value at fits is = perhaps-sound fixed whole base at value is

  fields-sound : (layout : Layout) (whole : List ℕ) (base : ℕ) (before all : List Value) (at : ℕ) → read_fields layout whole base at before ≡ Ok all → (values : List Value) × (all ≡ before ++ values) × FieldsStand layout whole before values at
  fields-sound no_fields whole base before all at is = ([], sym (Ok-same _ before all refl is) ∙ sym (append-nil before), tt)
  fields-sound (field name form more) whole base before all at is =
      let w = within-ok whole (at + room form before) (base + at) (and_then (read_form form whole base at before) (λ value. read_fields more whole base (at + room form before) (before ++ value ∷ []))) all is in
      let r = and_then-ok (read_form form whole base at before) (λ value. read_fields more whole base (at + room form before) (before ++ value ∷ [])) all w.1 in
      let rest = fields-sound more whole base (before ++ r.0 ∷ []) all (at + room form before) r.2 in
      (r.0 ∷ rest.0, rest.1 ∙ append_assoc before (r.0 ∷ []) rest.0, (w.0, form-sound form whole base before r.0 at w.0 r.1, rest.2))

-- ---- both ways ----

pub stand-read : (layout : Layout) (values : List Value) (buffer : List ℕ) → Fields layout values buffer → read layout buffer ≡ Ok values
stand-read layout values buffer stand = fields-are layout buffer 0 [] values 0 stand

pub read-stand : (layout : Layout) (values : List Value) (buffer : List ℕ) → read layout buffer ≡ Ok values → Fields layout values buffer
read-stand layout values buffer is = let s = fields-sound layout buffer 0 [] values 0 is in subst (λ (l : List Value). FieldsStand layout buffer [] l 0) (sym s.1) s.2

pub one-reading : (layout : Layout) (v w : List Value) (buffer : List ℕ) → Fields layout v buffer → Fields layout w buffer → v ≡ w
one-reading layout v w buffer in_v in_w = Ok-same _ _ _ (stand-read layout v buffer in_v) (stand-read layout w buffer in_w)

pub refused : (layout : Layout) (buffer : List ℕ) (fault : FieldFault) → Ends (read layout buffer) (footprint layout buffer) footprint_limit fault → IsRefused layout buffer fault
refused layout buffer (OutOfRange place) is = (λ values stand. let h = sym (stand-read layout values buffer stand) ∙ is.0 in absurd cc, is.0, is.1)
refused layout buffer (Lone place) is = (λ values stand. let h = sym (stand-read layout values buffer stand) ∙ is.0 in absurd cc, is.0, is.1)
refused layout buffer TooLarge is = is
refused layout buffer OutOfMemory is = tt
