-- What is read of a buffer that has values counts as these values do.
use Rattle.std.proofs.Common.{◌≡◌, ◌≢◌, ℕ, zero, suc, ◌+◌, ◌-◌, ◌*◌, ◌<◌, ◌≤◌, inl, inr, All, List, [], ◌∷◌, ◌++◌, length, drop, slice_range, refl, sym, ◌∙◌, ap, ap₂, subst, rules, arith, append_assoc, Ok}
use Rattle.std.proofs.lemmas.List.{append-nil, length-drop, length-take-le}
use Rattle.std.proofs.lemmas.List.Elements.{All-nil, All-take, All-drop}
use Rattle.std.proofs.str.Laws.{order}
use Rattle.kit_bytes.specs.Numbers.{number_at}
use Rattle.kit_bytes.proofs.RoundTrips.{writes_read}
use Rattle.mbim_fields.specs.Layout.{Fixed, u32, u64, uuid, ipv4, ipv6, prefixed_ipv4, prefixed_ipv6, size, Item, in_place, text, binary, structure, width, Form, one, each, run, perhaps, Layout, no_fields, field}
use Rattle.mbim_fields.specs.Value.{Value, octets, elements, members, values_of, count_in, room}
use Rattle.mbim_fields.specs.Reading.{Read, and_then, fixed_at, run_at, Part, part_at, read_each, read_run, read_perhaps, text_in, read_item, read_form, read_fields, read}
use Rattle.mbim_fields.specs.Fields.{Fields}
use Rattle.mbim_fields.specs.Footprint.{value_footprint, values_footprint, fixed_footprint, behind, each_footprint, run_footprint, perhaps_footprint, item_footprint, form_footprint, fields_footprint, footprint}
use Rattle.mbim_fields.proofs.Readings.{counted_next}
use Rattle.mbim_fields.proofs.Agreement.{zero_or, part_at-none, part_at-some, part_at-past, run-none, run-some, run-past, perhaps-none, perhaps-some, perhaps-past, and_then-ok, Ok-same, within-ok, text_in-ok, stand-read}

-- ---- parts of a structure ----

abbrev AreBytes : List ℕ → Type 0
AreBytes bytes = All (λ byte. byte < 256) bytes

slice-bytes : (whole : List ℕ) (from to : ℕ) → AreBytes whole → AreBytes (slice_range whole from to)
slice-bytes whole from to are = All-take (λ byte. byte < 256) (to - from) (drop from whole) (All-drop (λ byte. byte < 256) from whole are)

slice-long : (whole : List ℕ) (at count : ℕ) → at + count ≤ length whole → length (slice_range whole at (at + count)) ≡ count
slice-long whole at count inside =
    let rest = length-drop at whole in
    let long = length-take-le (at + count - at) (drop at whole) (omega (arith, inside, rest)) in
    omega (arith, long)

part-bytes : (whole : List ℕ) (base at : ℕ) (part : Part) → AreBytes whole → part_at whole base at ≡ Ok part → AreBytes part.bytes
part-bytes whole base at part are is = elim (zero_or (number_at whole (at + 4) 4)) [
  | inl none ↦ subst (λ (p : Part). AreBytes p.bytes) (Ok-same _ _ _ (part_at-none whole base at none) is) (All-nil (λ byte. byte < 256))
  | inr some ↦ elim (order (length whole) (number_at whole at 4 + number_at whole (at + 4) 4)) [
    | inl past ↦ absurd (let h = sym (part_at-past whole base at some past) ∙ is in cc)
    | inr fits ↦ subst (λ (p : Part). AreBytes p.bytes) (Ok-same _ _ _ (part_at-some whole base at some fits) is) (slice-bytes whole _ _ are)
  ]
]

-- ---- what has one size ----

fixed-counted : (fixed : Fixed) (whole : List ℕ) (at : ℕ) → at + size fixed ≤ length whole → value_footprint (fixed_at fixed whole at) ≡ fixed_footprint fixed
fixed-counted u32 whole at fits = refl
fixed-counted u64 whole at fits = refl
fixed-counted uuid whole at fits = refl
fixed-counted ipv4 whole at fits = ap (λ (n : ℕ). 32 + n) (slice-long whole at 4 fits)
fixed-counted ipv6 whole at fits = ap (λ (n : ℕ). 32 + n) (slice-long whole at 16 fits)
fixed-counted prefixed_ipv4 whole at fits = ap (λ (n : ℕ). 32 + (32 + (32 + n + 0))) (slice-long whole (at + 4) 4 (omega (arith, fits)))
fixed-counted prefixed_ipv6 whole at fits = ap (λ (n : ℕ). 32 + (32 + (32 + n + 0))) (slice-long whole (at + 4) 16 (omega (arith, fits)))

run-counted : (fixed : Fixed) (whole : List ℕ) (count at : ℕ) → at + count * size fixed ≤ length whole → values_footprint (values_of (run_at fixed count whole at)) ≡ count * fixed_footprint fixed
run-counted fixed whole zero at fits = let none : 0 ≡ 0 * fixed_footprint fixed = omega arith in none
run-counted fixed whole (suc count) at fits =
    let one = fixed-counted fixed whole at (omega (arith, fits)) in
    let rest = run-counted fixed whole count (at + size fixed) (omega (arith, fits)) in
    let all : fixed_footprint fixed + count * fixed_footprint fixed ≡ suc count * fixed_footprint fixed = omega arith in
    ap₂ (λ (m n : ℕ). m + n) one rest ∙ all

-- ---- what a single offset points at ----

run_is-counted : (fixed : Fixed) (whole : List ℕ) (count base at : ℕ) (value : Value) → read_run fixed count whole base at ≡ Ok value → run_footprint fixed count whole base at ≡ value_footprint value
run_is-counted fixed whole count base at value is =
    let counts = ap (λ (r : Read Value). behind r (λ value. 32 + count * fixed_footprint fixed)) is in
    elim (zero_or count) [
      | inl none ↦
          let same = Ok-same _ _ _ (run-none fixed whole count base at none) is in
          let gone : count * fixed_footprint fixed ≡ 0 * fixed_footprint fixed = ap (λ (n : ℕ). n * fixed_footprint fixed) none in
          let nothing : 32 + count * fixed_footprint fixed ≡ 32 + 0 = omega (arith, gone) in
          counts ∙ nothing ∙ ap (λ (v : Value). value_footprint v) same
      | inr some ↦ elim (order (length whole) (number_at whole at 4 + count * size fixed)) [
        | inl past ↦ absurd (let h = sym (run-past fixed whole count base at some past) ∙ is in cc)
        | inr fits ↦
            let same = Ok-same _ _ _ (run-some fixed whole count base at some fits) is in
            counts ∙ ap (λ (n : ℕ). 32 + n) (sym (run-counted fixed whole count (number_at whole at 4) fits)) ∙ ap (λ (v : Value). value_footprint v) same
      ]
    ]

absent-counted : (fixed : Fixed) (whole : List ℕ) (base at : ℕ) → number_at whole at 4 ≡ 0 → perhaps_footprint fixed whole base at ≡ 32
absent-counted fixed whole base at none = search rules

there-counted : (fixed : Fixed) (whole : List ℕ) (base at : ℕ) → number_at whole at 4 ≢ 0 → number_at whole at 4 + size fixed ≤ length whole → perhaps_footprint fixed whole base at ≡ fixed_footprint fixed
there-counted fixed whole base at some fits = search rules

perhaps-counted : (fixed : Fixed) (whole : List ℕ) (base at : ℕ) (value : Value) → read_perhaps fixed whole base at ≡ Ok value → perhaps_footprint fixed whole base at ≡ value_footprint value
perhaps-counted fixed whole base at value is = elim (zero_or (number_at whole at 4)) [
  | inl none ↦ absent-counted fixed whole base at none ∙ ap (λ (v : Value). value_footprint v) (Ok-same _ _ _ (perhaps-none fixed whole base at none) is)
  | inr some ↦ elim (order (length whole) (number_at whole at 4 + size fixed)) [
    | inl past ↦ absurd (let h = sym (perhaps-past fixed whole base at some past) ∙ is in cc)
    | inr fits ↦
        there-counted fixed whole base at some fits ∙ sym (fixed-counted fixed whole (number_at whole at 4) fits)
        ∙ ap (λ (v : Value). value_footprint v) (Ok-same _ _ _ (perhaps-some fixed whole base at some fits) is)
  ]
]

-- ---- items, one after another ----

abbrev AreCounted : (ℕ → Read Value) → (ℕ → ℕ) → ℕ → ℕ → Type 0
AreCounted read item width limit = (value : Value) (at : ℕ) → at + width ≤ limit → read at ≡ Ok value → item at ≡ value_footprint value

each-counted : (read : ℕ → Read Value) (item : ℕ → ℕ) (width limit : ℕ) → AreCounted read item width limit → (count at : ℕ) (done all : List Value) → at + count * width ≤ limit → read_each read width count at done ≡ Ok all
    → (values : List Value) × (all ≡ done ++ values) × (each_footprint read item width count at ≡ values_footprint (values_of values))
each-counted read item width limit counted zero at done all fits is = ([], sym (Ok-same _ done all refl is) ∙ sym (append-nil done), refl)
each-counted read item width limit counted (suc count) at done all fits is =
    let one = and_then-ok (read at) (λ value. read_each read width count (at + width) (done ++ value ∷ [])) all is in
    let rest = each-counted read item width limit counted count (at + width) (done ++ one.0 ∷ []) all (omega (arith, fits)) one.2 in
    let here = counted one.0 at (omega (arith, fits)) one.1 in (
      one.0 ∷ rest.0,
      rest.1 ∙ append_assoc done (one.0 ∷ []) rest.0,
      ap (λ (r : Read Value). item at + behind r (λ value. each_footprint read item width count (at + width))) one.1 ∙ ap₂ (λ (m n : ℕ). m + n) here rest.2,
    )

-- ---- items, forms and fields ----

mutual
  item-counted : (item : Item) (whole : List ℕ) (base : ℕ) → AreBytes whole → AreCounted (read_item item whole base) (item_footprint item whole base) (width item) (length whole)
  item-counted (in_place fixed) whole base are value at fits is = sym (fixed-counted fixed whole at fits) ∙ ap (λ (v : Value). value_footprint v) (Ok-same _ _ _ refl is)
  item-counted text whole base are value at fits is =
      let p = and_then-ok (part_at whole base at) (λ part. text_in part.bytes (base + at)) value is in
      let t = text_in-ok p.0.bytes (base + at) value p.2 in
      let written = writes_read p.0.bytes (part-bytes whole base at p.0 are p.1) t.0 in
      ap (λ (r : Read Part). behind r (λ part. 32 + length part.bytes)) p.1 ∙ ap (λ (bytes : List ℕ). 32 + length bytes) (sym written) ∙ ap (λ (v : Value). value_footprint v) t.1
  item-counted binary whole base are value at fits is =
      let p = and_then-ok (part_at whole base at) (λ part. Ok (octets part.bytes)) value is in
      ap (λ (r : Read Part). behind r (λ part. 32 + length part.bytes)) p.1 ∙ ap (λ (v : Value). value_footprint v) (Ok-same _ _ _ refl p.2)
  item-counted (structure layout) whole base are value at fits is =
      let p = and_then-ok (part_at whole base at) (λ part. and_then (read_fields layout part.bytes part.place 0 []) (λ values. Ok (members (values_of values)))) value is in
      let r = and_then-ok (read_fields layout p.0.bytes p.0.place 0 []) (λ values. Ok (members (values_of values))) value p.2 in
      let inner = fields-counted layout p.0.bytes p.0.place [] r.0 0 (part-bytes whole base at p.0 are p.1) r.1 in
      ap (λ (r : Read Part). behind r (λ part. 32 + fields_footprint layout part.bytes part.place 0 [])) p.1
      ∙ ap (λ (n : ℕ). 32 + n) (inner.2 ∙ ap (λ (l : List Value). values_footprint (values_of l)) (sym inner.1)) ∙ ap (λ (v : Value). value_footprint v) (Ok-same _ _ _ refl r.2)

  form-counted : (form : Form) (whole : List ℕ) (base : ℕ) (before : List Value) (value : Value) (at : ℕ) → AreBytes whole → at + room form before ≤ length whole → read_form form whole base at before ≡ Ok value
      → form_footprint form whole base at before ≡ value_footprint value
  form-counted (one item) whole base before value at are fits is = item-counted item whole base are value at fits is
  form-counted (each place item) whole base before value at are fits is =
      let r = and_then-ok (read_each (read_item item whole base) (width item) (count_in before place) at []) (λ values. Ok (elements (values_of values))) value is in
      let e = each-counted (read_item item whole base) (item_footprint item whole base) (width item) (length whole) (item-counted item whole base are) (count_in before place) at [] r.0 fits r.1 in
      ap (λ (n : ℕ). 32 + n) (e.2 ∙ ap (λ (l : List Value). values_footprint (values_of l)) (sym e.1)) ∙ ap (λ (v : Value). value_footprint v) (Ok-same _ _ _ refl r.2)
  form-counted (run place fixed) whole base before value at are fits is = run_is-counted fixed whole (count_in before place) base at value is
  form-counted (perhaps fixed) whole base before value at are fits is = perhaps-counted fixed whole base at value is

  fields-counted : (layout : Layout) (whole : List ℕ) (base : ℕ) (before all : List Value) (at : ℕ) → AreBytes whole → read_fields layout whole base at before ≡ Ok all
      → (values : List Value) × (all ≡ before ++ values) × (fields_footprint layout whole base at before ≡ values_footprint (values_of values))
  fields-counted no_fields whole base before all at are is = ([], sym (Ok-same _ before all refl is) ∙ sym (append-nil before), refl)
  fields-counted (field name form more) whole base before all at are is =
      let w = within-ok whole (at + room form before) (base + at) (and_then (read_form form whole base at before) (λ value. read_fields more whole base (at + room form before) (before ++ value ∷ []))) all is in
      let r = and_then-ok (read_form form whole base at before) (λ value. read_fields more whole base (at + room form before) (before ++ value ∷ [])) all w.1 in
      let rest = fields-counted more whole base (before ++ r.0 ∷ []) all (at + room form before) are r.2 in
      let here = form-counted form whole base before r.0 at are w.0 r.1 in (
        r.0 ∷ rest.0,
        rest.1 ∙ append_assoc before (r.0 ∷ []) rest.0,
        counted_next name form more whole base before at r.0 w.0 r.1 ∙ ap₂ (λ (m n : ℕ). m + n) here rest.2,
      )

pub values-counted : (layout : Layout) (values : List Value) (buffer : List ℕ) → AreBytes buffer → Fields layout values buffer → footprint layout buffer ≡ values_footprint (values_of values)
values-counted layout values buffer are fields =
    let c = fields-counted layout buffer 0 [] values 0 are (stand-read layout values buffer fields) in
    c.2 ∙ ap (λ (l : List Value). values_footprint (values_of l)) (sym c.1)
