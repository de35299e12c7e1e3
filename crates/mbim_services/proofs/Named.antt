-- Which path a proxy configuration has.
use Rattle.std.proofs.Common.{◌≡◌, ◌≢◌, ℕ, ◌+◌, ◌<◌, ◌≤◌, ◌⊎◌, inl, inr, IsTrue, Bool, true, false, ◌==◌, All, List, [], ◌∷◌, length, slice_range, refl, sym, ◌∙◌, ap, arith, rules}
use Rattle.std.proofs.lemmas.Str.{utf16_chars-nil}
use Rattle.std.proofs.lemmas.List.Elements.{All-nil, All-take, All-drop}
use Rattle.kit_bytes.specs.Numbers.{number_at}
use Rattle.kit_bytes.specs.Utf16.{utf16_bytes, utf16_text, is_utf16}
use Rattle.kit_bytes.proofs.RoundTrips.{writes_read}
use Rattle.mbim_fields.proofs.Agreement.{slice-none}
use Rattle.mbim_services.specs.Paths.{HasPath}

abbrev pub data_at : List ℕ → List ℕ
data_at buffer = slice_range buffer (number_at buffer 0 4) (number_at buffer 0 4 + number_at buffer 4 4)

-- the pair at the front lies in the buffer
abbrev pub LiesIn : List ℕ → Type 0
LiesIn buffer = (number_at buffer 4 4 ≡ 0) ⊎ (number_at buffer 0 4 + number_at buffer 4 4 ≤ length buffer)

pub path-there : (buffer path : List ℕ) → 12 ≤ length buffer → LiesIn buffer → IsTrue (is_utf16 (data_at buffer)) → All (λ byte. byte < 256) (data_at buffer) → data_at buffer ≡ path → HasPath buffer path
path-there buffer path whole lies utf16 bytes is =
    record {
      chars = utf16_text (data_at buffer);
      timeout = number_at buffer 8 4;
      fields = (
        omega (arith, whole),
        record { offset = number_at buffer 0 4; size = number_at buffer 4 4; offset_is = refl; size_is = refl; inside = lies; holds = (utf16, refl) },
        (omega (arith, whole), record { inside = omega (arith, whole); is = refl }, tt),
      );
      spelled = writes_read (data_at buffer) bytes utf16 ∙ is;
    }

pub path-whole : (buffer path : List ℕ) → HasPath buffer path → 12 ≤ length buffer
path-whole buffer path has = let f = has.fields.2.0 in omega (arith, f)

pub path-lies : (buffer path : List ℕ) → HasPath buffer path → LiesIn buffer
path-lies buffer path has = let p = has.fields.1 in rw (p.offset_is, p.size_is) at p.inside

pub path-is : (buffer path : List ℕ) → All (λ byte. byte < 256) (data_at buffer) → HasPath buffer path → (data_at buffer ≡ path) × IsTrue (is_utf16 (data_at buffer))
path-is buffer path bytes has =
    let p = has.fields.1 in
    let holds = rw (p.offset_is, p.size_is) at p.holds in
    (sym (writes_read (data_at buffer) bytes holds.0) ∙ ap utf16_bytes (sym holds.1) ∙ has.spelled, holds.0)

no-length : (n : ℕ) → IsTrue (n == 0) → n ≡ 0
no-length n is = search rules

empty : (path : List ℕ) → IsTrue (length path == 0) → path ≡ []
empty [] is = refl
empty (byte ∷ path) is = absurd (let none = no-length (length (byte ∷ path)) is in omega (arith, none))

data-bytes : (buffer : List ℕ) → All (λ byte. byte < 256) buffer → All (λ byte. byte < 256) (data_at buffer)
data-bytes buffer bytes = All-take (λ byte. byte < 256) _ _ (All-drop (λ byte. byte < 256) (number_at buffer 0 4) buffer bytes)

nothing : (buffer : List ℕ) → number_at buffer 4 4 ≡ 0 → data_at buffer ≡ []
nothing buffer none = slice-none buffer (number_at buffer 0 4) (number_at buffer 4 4) none

pub none-there : (buffer path : List ℕ) → 12 ≤ length buffer → number_at buffer 4 4 ≡ 0 → IsTrue (length path == 0) → HasPath buffer path
none-there buffer path whole none is =
    path-there buffer path whole (inl none) (rw (nothing buffer none, utf16_chars-nil) refl) (rw (nothing buffer none) (All-nil (λ byte. byte < 256))) (nothing buffer none ∙ sym (empty path is))

pub none-is : (buffer path : List ℕ) → number_at buffer 4 4 ≡ 0 → HasPath buffer path → (length path == 0) ≡ true
none-is buffer path none has =
    let path_is = path-is buffer path (rw (nothing buffer none) (All-nil (λ byte. byte < 256))) has in
    rw (sym path_is.0 ∙ nothing buffer none) refl

-- the bytes of the path were compared
pub compared-is : (buffer path : List ℕ) (offset size : ℕ) (result : Bool) → offset ≡ number_at buffer 0 4 → size ≡ number_at buffer 4 4 → 12 ≤ length buffer → offset + size ≤ length buffer
    → All (λ byte. byte < 256) buffer → slice_range buffer offset (offset + size) ≡ path → result ≡ is_utf16 (slice_range buffer offset (offset + size)) → (IsTrue result → HasPath buffer path) × (HasPath buffer path → IsTrue result)
compared-is buffer path offset size result offset_is size_is whole lies bytes same is =
    let there : data_at buffer ≡ path = rw (offset_is, size_is) at same in
    let result_is : result ≡ is_utf16 (data_at buffer) = rw (offset_is, size_is) at is in
    let lies_in : number_at buffer 0 4 + number_at buffer 4 4 ≤ length buffer = rw (offset_is, size_is) at lies in
    let fit = data-bytes buffer bytes in
    (λ true_. path-there buffer path whole (inr lies_in) (sym result_is ∙ true_) fit there, λ has. result_is ∙ (path-is buffer path fit has).1)

pub compared-not : (buffer path : List ℕ) (offset size : ℕ) (result : Bool) → offset ≡ number_at buffer 0 4 → size ≡ number_at buffer 4 4 → All (λ byte. byte < 256) buffer → result ≡ false
    → slice_range buffer offset (offset + size) ≢ path → (IsTrue result → HasPath buffer path) × (HasPath buffer path → IsTrue result)
compared-not buffer path offset size result offset_is size_is bytes is other =
    let differs : data_at buffer ≢ path = rw (offset_is, size_is) at other in (
      (λ true_. absurd (let h : false ≡ true = sym is ∙ true_ in cc)),
      (λ has. absurd (differs (path-is buffer path (data-bytes buffer bytes) has).0)),
    )
