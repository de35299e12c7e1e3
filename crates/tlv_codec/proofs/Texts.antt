-- The text of entries is cut into the texts of the entries.
use Rattle.std.proofs.Common.{◌≡◌, ℕ, zero, suc, ◌+◌, ◌*◌, ◌/◌, ◌%◌, ◌<◌, ◌≤◌, List, [], ◌∷◌, ◌++◌, Some, None, length, map, refl, sym, ◌∙◌, ap, subst, arith, length-append}
use Rattle.std.proofs.lemmas.List.{append-nil, get_or_append_left}
use Rattle.std.proofs.lemmas.List.Elements.{All-from_recursion}
use Rattle.std.proofs.lemmas.Bool.Decides.{nat_tests}
use Rattle.std.specs.List.{concat, AllByRecursion, slice_index}
use Rattle.kit_bytes.specs.Numbers.{number_at}
use Rattle.framing.specs.declared.framing.Size.{Size}
use Rattle.framing.specs.declared.framing.Size.TheVariants.{Unknown, Known, Invalid}
use Rattle.framing.specs.Framing.{IsMessage, IsPartial, IsShort, IsKept, IsPositive, AreBytes}
use Rattle.framing.specs.Cutting.{Cutting, behind, cut}
use Rattle.framing.proofs.Cuts.{cut-given, cut-partial, cut-whole, cut-each}
use Rattle.tlv_codec.specs.Tlv.{Entry, entry_text, tlv_text, tlv_size, entry_of, entries_in, tlvs_of}

-- ---- TLVs tell their lengths as a framing's messages do ----

known_on : (front more : List ℕ) (n : ℕ) → tlv_size front ≡ Known n → tlv_size (front ++ more) ≡ Known n
known_on front more n is = grind (arith, nat_tests, get_or_append_left, length-append)

never_invalid : (bytes : List ℕ) → tlv_size bytes ≡ Invalid → ⊥
never_invalid bytes is = grind (arith, nat_tests)

known_is_some : (bytes : List ℕ) (n : ℕ) → tlv_size bytes ≡ Known n → 0 < n
known_is_some bytes n is = grind (arith, nat_tests)

known_has_head : (bytes : List ℕ) (n : ℕ) → tlv_size bytes ≡ Known n → 3 ≤ length bytes
known_has_head bytes n is = grind (arith, nat_tests)

known_is_told : (bytes : List ℕ) (n : ℕ) → tlv_size bytes ≡ Known n → n ≡ 3 + number_at bytes 1 2
known_is_told bytes n is = grind (arith, nat_tests)

known_by_head : (bytes : List ℕ) (n : ℕ) → 3 ≤ length bytes → n ≡ 3 + number_at bytes 1 2 → tlv_size bytes ≡ Known n
known_by_head bytes n head is = grind (arith, nat_tests)

unknown_by_length : (bytes : List ℕ) → length bytes < 3 → tlv_size bytes ≡ Unknown
unknown_by_length bytes short = grind (arith, nat_tests)

pub partial_head : (bytes : List ℕ) → length bytes < 3 → IsPartial tlv_size bytes
partial_head bytes short = let P : Size → Type 0 = λ (s : Size). IsShort s (length bytes) in subst P (sym (unknown_by_length bytes short)) tt

pub partial_value : (bytes : List ℕ) → 3 ≤ length bytes → length bytes < 3 + number_at bytes 1 2 → IsPartial tlv_size bytes
partial_value bytes head short = let P : Size → Type 0 = λ (s : Size). IsShort s (length bytes) in subst P (sym (known_by_head bytes (3 + number_at bytes 1 2) head refl)) short

kept : (front more : List ℕ) → IsKept (tlv_size front) (tlv_size (front ++ more))
kept front more =
    let step : (s : Size) → tlv_size front ≡ s → IsKept s (tlv_size (front ++ more)) =
    λ s. elim s as (λ s. tlv_size front ≡ s → IsKept s (tlv_size (front ++ more))) [
      | Unknown ↦ λ is. tt
      | Known n ↦ λ is. known_on front more n is
      | Invalid ↦ λ is. absurd (never_invalid front is)
    ]
    in step (tlv_size front) refl

positive : (bytes : List ℕ) → IsPositive (tlv_size bytes)
positive bytes =
    let step : (s : Size) → tlv_size bytes ≡ s → IsPositive s =
    λ s. elim s as (λ s. tlv_size bytes ≡ s → IsPositive s) [
      | Unknown ↦ λ is. tt
      | Known n ↦ λ is. known_is_some bytes n is
      | Invalid ↦ λ is. tt
    ]
    in step (tlv_size bytes) refl

entry_text-message : (entry : Entry) → IsMessage tlv_size (entry_text entry)
entry_text-message entry = known_by_head (entry_text entry) (length (entry_text entry)) (omega arith) (omega arith)

-- ---- what a text is cut into ----

texts-messages : (entries : List Entry) → AllByRecursion (IsMessage tlv_size) (map entry_text entries)
texts-messages [] = tt
texts-messages (entry ∷ entries) = (entry_text-message entry, texts-messages entries)

tlv_text-concat : (entries : List Entry) → tlv_text entries ≡ concat (map entry_text entries)
tlv_text-concat [] = refl
tlv_text-concat (entry ∷ entries) = ap (λ (l : List ℕ). entry_text entry ++ l) (tlv_text-concat entries)

map-entry_of : (entries : List Entry) → map entry_of (map entry_text entries) ≡ entries
map-entry_of [] = refl
map-entry_of (entry ∷ entries) = ap (λ (l : List Entry). entry ∷ l) (map-entry_of entries)

cut-text : (entries : List Entry) (rest : List ℕ) → cut tlv_size rest ≡ record { messages = []; rest = rest }
    → cut tlv_size (tlv_text entries ++ rest) ≡ record { messages = map entry_text entries; rest = rest }
cut-text entries rest none =
    ap (λ (l : List ℕ). cut tlv_size (l ++ rest)) (tlv_text-concat entries)
    ∙ cut-given tlv_size kept positive (map entry_text entries) rest (All-from_recursion (IsMessage tlv_size) (map entry_text entries) (texts-messages entries))
    ∙ ap (behind (map entry_text entries)) none
    ∙ ap (λ (l : List (List ℕ)). record { messages = l; rest = rest }) (append-nil (map entry_text entries))

-- reading gives back what was written
pub tlvs_of-text : (entries : List Entry) → tlvs_of (tlv_text entries) ≡ Some entries
tlvs_of-text entries =
    ap tlvs_of (sym (append-nil (tlv_text entries)))
    ∙ ap (λ (c : Cutting). entries_in c.messages c.rest) (cut-text entries [] (cut-partial tlv_size kept [] tt))
    ∙ ap (λ (l : List Entry). Some l) (map-entry_of entries)

entries_in-none : (texts : List (List ℕ)) (rest : List ℕ) → 0 < length rest → entries_in texts rest ≡ None
entries_in-none texts [] some = absurd (omega arith)
entries_in-none texts (byte ∷ rest) some = refl

-- bytes with a part of a TLV at their end aren't read
pub tlvs_of-partial : (entries : List Entry) (rest : List ℕ) → 0 < length rest → IsPartial tlv_size rest → tlvs_of (tlv_text entries ++ rest) ≡ None
tlvs_of-partial entries rest some part =
    ap (λ (c : Cutting). entries_in c.messages c.rest) (cut-text entries rest (cut-partial tlv_size kept rest part))
    ∙ entries_in-none (map entry_text entries) rest some

pub text_is_of_one : (a b : List Entry) → tlv_text a ≡ tlv_text b → a ≡ b
text_is_of_one a b same =
    let one : Some a ≡ Some b = sym (tlvs_of-text a) ∙ ap tlvs_of same ∙ tlvs_of-text b in cc

-- entries and then a part of one, where they make the same bytes, are the same
pub breaks_once : (a b : List Entry) (r s : List ℕ) → IsPartial tlv_size r → IsPartial tlv_size s → tlv_text a ++ r ≡ tlv_text b ++ s → (a ≡ b) × (r ≡ s)
breaks_once a b r s part_r part_s same =
    let cuts = sym (cut-text a r (cut-partial tlv_size kept r part_r)) ∙ ap (cut tlv_size) same ∙ cut-text b s (cut-partial tlv_size kept s part_s) in
    let texts = ap (λ (c : Cutting). c.messages) cuts in
    (sym (map-entry_of a) ∙ ap (λ (l : List (List ℕ)). map entry_of l) texts ∙ map-entry_of b, ap (λ (c : Cutting). c.rest) cuts)

-- ---- bytes that are read are the text of what was read ----

-- a TLV whose bytes these are has them as its text
entry_text-entry_of : (text : List ℕ) → AreBytes text → IsMessage tlv_size text → entry_text (entry_of text) ≡ text
entry_text-entry_of [] are is = let head = known_has_head [] 0 is in absurd (omega arith)
entry_text-entry_of (kind ∷ []) are is = let head = known_has_head (kind ∷ []) 1 is in absurd (omega arith)
entry_text-entry_of (kind ∷ low ∷ []) are is = let head = known_has_head (kind ∷ low ∷ []) 2 is in absurd (omega arith)
entry_text-entry_of (kind ∷ low ∷ high ∷ value) are is =
    let told = known_is_told (kind ∷ low ∷ high ∷ value) (length (kind ∷ low ∷ high ∷ value)) is in
    let count : length value ≡ low + 256 * high = omega arith in
    let small : low < 256 = are 1 in
    let l : length value % 256 ≡ low = omega arith in
    let h : length value / 256 ≡ high = omega arith in
    cc

AreBytes-front : (front back : List ℕ) → AreBytes (front ++ back) → AreBytes front
AreBytes-front [] back are = λ at. omega arith
AreBytes-front (byte ∷ front) back are = λ at. elim at as (λ (k : ℕ). slice_index (byte ∷ front) k < 256) [ zero ↦ are 0 | suc k ↦ AreBytes-front front back (λ j. are (suc j)) k ]

AreBytes-back : (front back : List ℕ) → AreBytes (front ++ back) → AreBytes back
AreBytes-back [] back are = are
AreBytes-back (byte ∷ front) back are = AreBytes-back front back (λ k. are (suc k))

tlv_text-entry_of : (texts : List (List ℕ)) → AllByRecursion (IsMessage tlv_size) texts → AreBytes (concat texts) → tlv_text (map entry_of texts) ≡ concat texts
tlv_text-entry_of [] all are = refl
tlv_text-entry_of (text ∷ texts) all are =
    ap (λ (l : List ℕ). l ++ tlv_text (map entry_of texts)) (entry_text-entry_of text (AreBytes-front text (concat texts) are) all.0)
    ∙ ap (λ (l : List ℕ). text ++ l) (tlv_text-entry_of texts all.1 (AreBytes-back text (concat texts) are))

read_in : (texts : List (List ℕ)) (rest : List ℕ) (entries : List Entry) → AllByRecursion (IsMessage tlv_size) texts → AreBytes (concat texts ++ rest) → entries_in texts rest ≡ Some entries
    → concat texts ++ rest ≡ tlv_text entries
read_in texts [] entries all are is =
    let same : map entry_of texts ≡ entries = cc in
    append-nil (concat texts) ∙ sym (tlv_text-entry_of texts all (AreBytes-front (concat texts) [] are)) ∙ ap tlv_text same
read_in texts (byte ∷ rest) entries all are is = absurd (cc)

pub text_of_read : (bytes : List ℕ) (entries : List Entry) → AreBytes bytes → tlvs_of bytes ≡ Some entries → bytes ≡ tlv_text entries
text_of_read bytes entries are is =
    let whole = cut-whole tlv_size bytes in
    sym whole
    ∙ read_in (cut tlv_size bytes).messages (cut tlv_size bytes).rest entries (cut-each tlv_size bytes) (subst AreBytes (sym whole) are) is
