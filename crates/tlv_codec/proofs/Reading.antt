-- Reading TLVs one after another.
use Rattle.std.proofs.Common.{◌≡◌, Err, ℕ, ◌+◌, ◌*◌, ◌/◌, ◌%◌, ◌<◌, ◌≤◌, List, [], ◌∷◌, ◌++◌, None, length, get_or, take, drop, refl, sym, ◌∙◌, ap, subst, arith, append_assoc, length-append, length-drop, get_or-drop, take-append-drop}
use Rattle.std.proofs.lemmas.List.{append-nil, drop_more, drop-drop, drop_all, length-take-le}
use Rattle.kit_bytes.specs.Numbers.{number_at}
use Rattle.framing.specs.Framing.{IsPartial, AreBytes}
use Rattle.tlv_codec.specs.declared.tlv.Tlv.{Tlv}
use Rattle.tlv_codec.specs.declared.tlv.TlvFault.{TlvFault}
use Rattle.tlv_codec.specs.declared.tlv.TlvFault.TheVariants.{ShortHead, ShortValue, OutOfMemory}
use Rattle.tlv_codec.specs.Tlv.{Entry, entry_text, tlv_text, tlv_size, tlvs_of}
use Rattle.tlv_codec.specs.Reading.{spans_of, StandsAt, ReadsTlv, AreOf, BreakAt, ReadsTlvs}
use Rattle.tlv_codec.proofs.Texts.{tlvs_of-text, tlvs_of-partial, partial_head, partial_value}

-- the bytes up to a place are the text of entries that stand at these TLVs
pub record HasRead (bytes : List ℕ) (place : ℕ) (tlvs : List Tlv) : Type 0 where
  pub entries : List Entry
  pub whole : bytes ≡ tlv_text entries ++ drop place bytes
  pub before : place ≡ length (tlv_text entries)
  pub spans : tlvs ≡ spans_of 0 entries

tlv_text-push : (entries : List Entry) (entry : Entry) → tlv_text (entries ++ entry ∷ []) ≡ tlv_text entries ++ entry_text entry
tlv_text-push [] entry = append-nil (entry_text entry)
tlv_text-push (first ∷ entries) entry = ap (λ (l : List ℕ). entry_text first ++ l) (tlv_text-push entries entry) ∙ sym (append_assoc (entry_text first) (tlv_text entries) (entry_text entry))

spans_of-push : (entries : List Entry) (place : ℕ) (entry : Entry)
    → spans_of place (entries ++ entry ∷ []) ≡ spans_of place entries ++ spans_of (place + length (tlv_text entries)) (entry ∷ [])
spans_of-push [] place entry = let e : place ≡ place + 0 = omega arith in ap (λ (n : ℕ). spans_of n (entry ∷ [])) e
spans_of-push (first ∷ entries) place entry =
    let e : place + 3 + length first.value + length (tlv_text entries) ≡ place + length (tlv_text (first ∷ entries)) = omega (arith, length-append (entry_text first) (tlv_text entries)) in
    ap (λ (l : List Tlv). spans_of place (first ∷ []) ++ l) (spans_of-push entries (place + 3 + length first.value) entry ∙ ap (λ (n : ℕ). spans_of (place + 3 + length first.value) entries ++ spans_of n (entry ∷ [])) e)

-- ---- one TLV more ----

abbrev span : ℕ → ℕ → ℕ → Tlv
span kind place count = record { kind = kind; start = place + 3; end = place + 3 + count }

span-at : (entry : Entry) (place before count : ℕ) → place ≡ before → length entry.value ≡ count
    → span entry.kind place count ≡ span entry.kind before (length entry.value)
span-at entry place before count same long = cc

drop-three : (bytes : List ℕ) (place : ℕ) → place + 3 ≤ length bytes
    → drop place bytes ≡ get_or bytes place 0 ∷ get_or bytes (place + 1) 0 ∷ get_or bytes (place + 2) 0 ∷ drop (place + 3) bytes
drop-three bytes place fits =
    let a = drop_more bytes place 0 (omega arith) in
    let b = drop_more bytes (place + 1) 0 (omega arith) in
    let c = drop_more bytes (place + 2) 0 (omega arith) in
    let e : place + 1 + 1 ≡ place + 2 = omega arith in
    let f : place + 2 + 1 ≡ place + 3 = omega arith in cc

low_and_high : (low high n : ℕ) → low < 256 → n ≡ low + 256 * high → (n % 256 ≡ low) × (n / 256 ≡ high)
low_and_high low high n small is = (omega arith, omega arith)

-- the entry that stands at a place, with a value of this length
abbrev entry_at : List ℕ → ℕ → ℕ → Entry
entry_at bytes place count = record { kind = get_or bytes place 0; value = take count (drop (place + 3) bytes) }

drop-entry : (bytes : List ℕ) (place count : ℕ) → AreBytes bytes → place + 3 + count ≤ length bytes → count ≡ number_at bytes (place + 1) 2
    → drop place bytes ≡ entry_text (entry_at bytes place count) ++ drop (place + 3 + count) bytes
drop-entry bytes place count are fits is =
    let e : place + 1 + 1 ≡ place + 2 = omega arith in
    let high = ap (λ (k : ℕ). get_or bytes k 0) e in
    let parts = low_and_high (get_or bytes (place + 1) 0) (get_or bytes (place + 2) 0) count (are (place + 1)) (omega arith) in
    let three = drop-three bytes place (omega arith) in
    let long : length (take count (drop (place + 3) bytes)) ≡ count = length-take-le count (drop (place + 3) bytes) (omega (arith, length-drop (place + 3) bytes)) in
    let split = take-append-drop count (drop (place + 3) bytes) in
    let rest = drop-drop count (place + 3) bytes in
    cc

pub HasRead-more : (bytes : List ℕ) (place : ℕ) (tlvs : List Tlv) (tlv : Tlv) → AreBytes bytes → StandsAt bytes place tlv → HasRead bytes place tlvs → HasRead bytes tlv.end (tlvs ++ tlv ∷ [])
HasRead-more bytes place tlvs tlv are stands read =
    let count : ℕ = number_at bytes (place + 1) 2 in
    let entry : Entry = entry_at bytes place count in
    let end : tlv.end ≡ place + 3 + count = ap (λ (t : Tlv). t.end) stands.is in
    let long : length entry.value ≡ count = length-take-le count (drop (place + 3) bytes) (omega (arith, length-drop (place + 3) bytes, stands.within)) in
    let text : drop place bytes ≡ entry_text entry ++ drop (place + 3 + count) bytes = drop-entry bytes place count are (omega (arith, stands.within)) refl in
    let push = tlv_text-push read.entries entry in
    record {
      entries = read.entries ++ entry ∷ [];
      whole =
          read.whole
          ∙ ap (λ (l : List ℕ). tlv_text read.entries ++ l) (text ∙ ap (λ (n : ℕ). entry_text entry ++ drop n bytes) (sym end))
          ∙ sym (append_assoc (tlv_text read.entries) (entry_text entry) (drop tlv.end bytes))
          ∙ ap (λ (l : List ℕ). l ++ drop tlv.end bytes) (sym push);
      before = end ∙ omega (arith, ap length push, length-append (tlv_text read.entries) (entry_text entry), read.before, long);
      spans =
          ap (λ (l : List Tlv). l ++ tlv ∷ []) read.spans
          ∙ ap (λ (t : Tlv). spans_of 0 read.entries ++ t ∷ []) (stands.is ∙ span-at entry place (0 + length (tlv_text read.entries)) count (omega (arith, read.before)) long)
          ∙ sym (spans_of-push read.entries 0 entry);
    }

-- ---- the end of reading ----

pub HasRead-all : (bytes : List ℕ) (place : ℕ) (tlvs : List Tlv) → length bytes ≤ place → HasRead bytes place tlvs → (entries : List Entry) × AreOf bytes tlvs entries
HasRead-all bytes place tlvs end read =
    let whole : bytes ≡ tlv_text read.entries =
    read.whole ∙ ap (λ (l : List ℕ). tlv_text read.entries ++ l) (drop_all place bytes end) ∙ append-nil (tlv_text read.entries) in
    (read.entries, record { whole = whole; spans = read.spans; read = ap tlvs_of whole ∙ tlvs_of-text read.entries })

breaks : (bytes : List ℕ) (place : ℕ) (tlvs : List Tlv) → place < length bytes → IsPartial tlv_size (drop place bytes) → (read : HasRead bytes place tlvs)
    → BreakAt bytes place read.entries (drop place bytes)
breaks bytes place tlvs within part read =
    let some : 0 < length (drop place bytes) = omega (arith, length-drop place bytes) in
    record {
      whole = read.whole;
      before = read.before;
      some = some;
      unread = ap tlvs_of read.whole ∙ tlvs_of-partial read.entries (drop place bytes) some part;
    }

number_at-drop : (bytes : List ℕ) (place : ℕ) → number_at (drop place bytes) 1 2 ≡ number_at bytes (place + 1) 2
number_at-drop bytes place =
    let e : place + 2 ≡ place + 1 + 1 = omega arith in
    let low = get_or-drop place bytes 1 0 in
    let high = get_or-drop place bytes 2 0 ∙ ap (λ (k : ℕ). get_or bytes k 0) e in
    cc

-- the rest from the place of a TLV that isn't whole
partial_at : (bytes : List ℕ) (place : ℕ) (fault : TlvFault) → ReadsTlv bytes place (Err fault) → IsPartial tlv_size (drop place bytes)
partial_at bytes place (ShortHead at) (is, short) = let left = length-drop place bytes in partial_head (drop place bytes) (omega arith)
partial_at bytes place (ShortValue at) (is, head, short) =
    let left = length-drop place bytes in
    let same = number_at-drop bytes place in
    partial_value (drop place bytes) (omega arith) (omega arith)
partial_at bytes place OutOfMemory never = absurd never

-- it ends the reading
pub HasRead-unread : (bytes : List ℕ) (place : ℕ) (tlvs : List Tlv) (fault : TlvFault) → place < length bytes → ReadsTlv bytes place (Err fault) → HasRead bytes place tlvs → tlvs_of bytes ≡ None
HasRead-unread bytes place tlvs fault within short read = (breaks bytes place tlvs within (partial_at bytes place fault short) read).unread

pub HasRead-breaks : (bytes : List ℕ) (place : ℕ) (tlvs : List Tlv) (fault : TlvFault) → place < length bytes → ReadsTlv bytes place (Err fault) → HasRead bytes place tlvs → ReadsTlvs bytes (Err fault)
HasRead-breaks bytes place tlvs (ShortHead at) within (is, short) read =
    let left = length-drop place bytes in
    subst (λ (k : ℕ). ReadsTlvs bytes (Err (ShortHead k))) (sym is)
    (read.entries, drop place bytes, breaks bytes place tlvs within (partial_at bytes place (ShortHead at) (is, short)) read, omega arith)
HasRead-breaks bytes place tlvs (ShortValue at) within (is, head, short) read =
    let left = length-drop place bytes in
    let same = number_at-drop bytes place in
    subst (λ (k : ℕ). ReadsTlvs bytes (Err (ShortValue k))) (sym is)
    (read.entries, drop place bytes, breaks bytes place tlvs within (partial_at bytes place (ShortValue at) (is, head, short)) read, omega arith, omega arith)
HasRead-breaks bytes place tlvs OutOfMemory within never read = absurd never
