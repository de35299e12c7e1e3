-- At the place of an entry stands its value.
use Rattle.std.proofs.Common.{◌≡◌, ℕ, ◌+◌, ◌-◌, ◌/◌, ◌%◌, Bool, true, false, ◌==◌, List, [], ◌∷◌, ◌++◌, Option, Some, None, length, take, slice_range, refl, sym, ◌∙◌, ap, subst, arith, append_assoc, length-append}
use Rattle.std.proofs.lemmas.List.{drop_at, take_at}
use Rattle.std.specs.Prelude.{if◌then◌else◌}
use Rattle.tlv_codec.specs.declared.tlv.Tlv.{Tlv}
use Rattle.tlv_codec.specs.Tlv.{Entry, entry_text, tlv_text, first_value}
use Rattle.tlv_codec.specs.Reading.{spans_of, first_tlv}
use Rattle.tlv_codec.specs.Looking.{HoldsFirst}

slice_range-between : (front middle back : List ℕ) (start : ℕ) → length front ≡ start → slice_range (front ++ (middle ++ back)) start (start + length middle) ≡ middle
slice_range-between front middle back start is =
    ap (λ (l : List ℕ). take (start + length middle - start) l) (drop_at front (middle ++ back) start is) ∙ take_at middle back (start + length middle - start) (omega arith)

value-behind : (front : List ℕ) (entry : Entry) (entries : List Entry)
    → slice_range (front ++ tlv_text (entry ∷ entries)) (length front + 3) (length front + 3 + length entry.value) ≡ entry.value
value-behind front entry entries =
    let head : List ℕ = entry.kind ∷ length entry.value % 256 ∷ length entry.value / 256 ∷ [] in
    ap (λ (l : List ℕ). slice_range l (length front + 3) (length front + 3 + length entry.value)) (sym (append_assoc front head (entry.value ++ tlv_text entries)))
    ∙ slice_range-between (front ++ head) entry.value (tlv_text entries) (length front + 3) (omega (arith, length-append front head))

-- entries behind these bytes
holds_first-behind : (front : List ℕ) (entries : List Entry) (kind : ℕ) (tlv : Tlv) → first_tlv kind (spans_of (length front) entries) ≡ Some tlv
    → HoldsFirst (front ++ tlv_text entries) kind entries tlv
holds_first-behind front [] kind tlv is = absurd (cc)
holds_first-behind front (entry ∷ entries) kind tlv is =
    let next : Tlv = record { kind = entry.kind; start = length front + 3; end = length front + 3 + length entry.value } in
    let later : Option Tlv = first_tlv kind (spans_of next.end entries) in
    let step : (b : Bool) → (entry.kind == kind) ≡ b → HoldsFirst (front ++ tlv_text (entry ∷ entries)) kind (entry ∷ entries) tlv =
    λ b. elim b as (λ b. (entry.kind == kind) ≡ b → HoldsFirst (front ++ tlv_text (entry ∷ entries)) kind (entry ∷ entries) tlv) [
      | true ↦ λ same.
          let found : Some next ≡ Some tlv = sym (ap (λ (b : Bool). if b then Some next else later) same) ∙ is in
          let here : next ≡ tlv = cc in
          subst (HoldsFirst (front ++ tlv_text (entry ∷ entries)) kind (entry ∷ entries)) here (record {
            ordered = omega arith;
            within = omega (arith, length-append front (tlv_text (entry ∷ entries)), length-append entry.value (tlv_text entries));
            value =
                ap (λ (b : Bool). if b then Some entry.value else first_value kind entries) same
                ∙ ap (λ (l : List ℕ). Some l) (sym (value-behind front entry entries));
          })
      | false ↦ λ other.
          let behind : length front + 3 + length entry.value ≡ length (front ++ entry_text entry) = omega (arith, length-append front (entry_text entry)) in
          let found : first_tlv kind (spans_of (length (front ++ entry_text entry)) entries) ≡ Some tlv =
          ap (λ (n : ℕ). first_tlv kind (spans_of n entries)) (sym behind) ∙ sym (ap (λ (b : Bool). if b then Some next else later) other) ∙ is in
          let holds : HoldsFirst (front ++ tlv_text (entry ∷ entries)) kind entries tlv =
          subst (λ (l : List ℕ). HoldsFirst l kind entries tlv) (append_assoc front (entry_text entry) (tlv_text entries)) (holds_first-behind (front ++ entry_text entry) entries kind tlv found) in
          record {
            ordered = holds.ordered;
            within = holds.within;
            value = ap (λ (b : Bool). if b then Some entry.value else first_value kind entries) other ∙ holds.value;
          }
    ]
    in step (entry.kind == kind) refl

pub holds_first : (entries : List Entry) (kind : ℕ) (tlv : Tlv) → first_tlv kind (spans_of 0 entries) ≡ Some tlv → HoldsFirst (tlv_text entries) kind entries tlv
holds_first entries kind tlv is = holds_first-behind [] entries kind tlv is

-- where no place is of a kind, no value is
pub first_value-none : (entries : List Entry) (place kind : ℕ) → first_tlv kind (spans_of place entries) ≡ None → first_value kind entries ≡ None
first_value-none [] place kind is = refl
first_value-none (entry ∷ entries) place kind is =
    let next : Tlv = record { kind = entry.kind; start = place + 3; end = place + 3 + length entry.value } in
    let later : Option Tlv = first_tlv kind (spans_of next.end entries) in
    let step : (b : Bool) → (entry.kind == kind) ≡ b → first_value kind (entry ∷ entries) ≡ None =
    λ b. elim b as (λ b. (entry.kind == kind) ≡ b → first_value kind (entry ∷ entries) ≡ None) [
      | true ↦ λ same. let found : Some next ≡ None = sym (ap (λ (b : Bool). if b then Some next else later) same) ∙ is in absurd (cc)
      | false ↦ λ other.
          ap (λ (b : Bool). if b then Some entry.value else first_value kind entries) other
          ∙ first_value-none entries next.end kind (sym (ap (λ (b : Bool). if b then Some next else later) other) ∙ is)
    ]
    in step (entry.kind == kind) refl
