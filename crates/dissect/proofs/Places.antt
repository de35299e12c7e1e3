-- The entries of bytes that are read stand at their places.
use Rattle.std.proofs.Common.{◌≡◌, ℕ, ◌+◌, ◌-◌, ◌/◌, ◌%◌, List, [], ◌∷◌, ◌++◌, length, map, take, slice_range, refl, ap, sym, ◌∙◌, subst, arith, append_assoc, length-append}
use Rattle.std.proofs.lemmas.List.{drop_at, take_at}
use Rattle.std.specs.List.{AllByRecursion}
use Rattle.tlv_codec.specs.declared.tlv.Tlv.{Tlv}
use Rattle.tlv_codec.specs.Tlv.{Entry, entry_text, tlv_text}
use Rattle.tlv_codec.specs.Reading.{spans_of, AreOf}
use Rattle.dissect.specs.Places.{StandsWithin, entry_at}

-- these TLVs are places of the bytes at which these entries stand
pub record Hold (bytes : List ℕ) (tlvs : List Tlv) (entries : List Entry) : Type 0 where
  pub within : AllByRecursion (StandsWithin bytes) tlvs
  pub are : map (entry_at bytes) tlvs ≡ entries

-- what stands behind a front and a head of three bytes
value_is : (front head value back : List ℕ) → length head ≡ 3 → slice_range (front ++ (head ++ (value ++ back))) (length front + 3) (length front + 3 + length value) ≡ value
value_is front head value back three =
    let start : ℕ = length front + 3 in
    let till : ℕ = start + length value in
    ap (λ (l : List ℕ). slice_range l start till) (sym (append_assoc front head (value ++ back)))
    ∙ ap (λ (l : List ℕ). take (till - start) l) (drop_at (front ++ head) (value ++ back) start (omega (arith, length-append front head, three)))
    ∙ take_at value back (till - start) (omega arith)

hold_behind : (front : List ℕ) (entries : List Entry) → Hold (front ++ tlv_text entries) (spans_of (length front) entries) entries
hold_behind front [] = record { within = tt; are = refl }
hold_behind front (entry ∷ entries) =
    let all : List ℕ = front ++ tlv_text (entry ∷ entries) in
    let till : ℕ = length front + 3 + length entry.value in
    let behind : length (front ++ entry_text entry) ≡ till = omega (arith, length-append front (entry_text entry)) in
    let moved : Hold all (spans_of (length (front ++ entry_text entry)) entries) entries =
    subst (λ (l : List ℕ). Hold l (spans_of (length (front ++ entry_text entry)) entries) entries) (append_assoc front (entry_text entry) (tlv_text entries)) (hold_behind (front ++ entry_text entry) entries) in
    let later : Hold all (spans_of till entries) entries = subst (λ (n : ℕ). Hold all (spans_of n entries) entries) behind moved in
    let value : slice_range all (length front + 3) till ≡ entry.value = value_is front (entry.kind ∷ length entry.value % 256 ∷ length entry.value / 256 ∷ []) entry.value (tlv_text entries) refl in
    let whole : length all ≡ length front + (3 + length entry.value + length (tlv_text entries)) =
    omega (arith, length-append front (tlv_text (entry ∷ entries)), length-append entry.value (tlv_text entries)) in
    record {
      within = (record { ordered = omega arith; within = omega (arith, whole) }, later.within);
      are =
          ap (λ (l : List ℕ). record { kind = entry.kind; value = l } ∷ map (entry_at all) (spans_of till entries)) value
          ∙ ap (λ (l : List Entry). entry ∷ l) later.are;
    }

-- the TLVs that are read hold the entries that are there
pub hold_all : (bytes : List ℕ) (tlvs : List Tlv) (entries : List Entry) → AreOf bytes tlvs entries → Hold bytes tlvs entries
hold_all bytes tlvs entries are =
    subst (λ (l : List ℕ). Hold l tlvs entries) (sym are.whole) (subst (λ (l : List Tlv). Hold (tlv_text entries) l entries) (sym are.spans) (hold_behind [] entries))
