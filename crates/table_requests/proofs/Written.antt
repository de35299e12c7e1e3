-- TLVs and one TLV more.
use Rattle.std.proofs.Common.{◌≡◌, ℕ, ◌+◌, ◌-◌, ◌<◌, ◌≤◌, List, [], ◌∷◌, ◌++◌, length, map, sym, ap, ◌∙◌, arith, append_assoc, append-nil, length-append}
use Rattle.std.proofs.lemmas.List.{map-append}
use Rattle.std.specs.Prelude.{Some, None}
use Rattle.qmux_frame.specs.declared.writing.TheConstants.{LONGEST_TLVS}
use Rattle.tlv_codec.specs.Tlv.{Entry, entry_text, tlv_text}
use Rattle.table_requests.specs.Requests.{TlvValue, entry_of, bytes_of}
use Rattle.table_requests.specs.Written.{IsWritten}

text-push : (entries : List Entry) (entry : Entry) → tlv_text (entries ++ entry ∷ []) ≡ tlv_text entries ++ entry_text entry
text-push [] entry = append-nil (entry_text entry)
text-push (first ∷ entries) entry = ap (λ (l : List ℕ). entry_text first ++ l) (text-push entries entry) ∙ sym (append_assoc (entry_text first) (tlv_text entries) (entry_text entry))

length-entry : (entry : Entry) → length (entry_text entry) ≡ 3 + length entry.value
length-entry entry = omega arith

-- one TLV more
module _ (done : List TlvValue) (one : TlvValue) (entry : Entry) (is : entry_of one ≡ entry) where
  bytes-more : bytes_of (done ++ one ∷ []) ≡ bytes_of done ++ entry_text entry
  bytes-more = ap tlv_text (map-append entry_of done (one ∷ [])) ∙ text-push (map entry_of done) (entry_of one) ∙ ap (λ (e : Entry). bytes_of done ++ entry_text e) is

  length-more : length (bytes_of (done ++ one ∷ [])) ≡ length (bytes_of done) + (3 + length entry.value)
  length-more = ap (λ (l : List ℕ). length l) bytes-more ∙ length-append (bytes_of done) (entry_text entry) ∙ ap (λ (n : ℕ). length (bytes_of done) + n) (length-entry entry)

  pub written-more : (old new : List ℕ) → IsWritten (Some old) done → new ≡ old ++ entry_text entry → length entry.value + 3 ≤ LONGEST_TLVS - length old → IsWritten (Some new) (done ++ one ∷ [])
  written-more old new written all room =
      let whole : new ≡ bytes_of (done ++ one ∷ []) = all ∙ ap (λ (l : List ℕ). l ++ entry_text entry) written.0 ∙ sym bytes-more in
      let count : length new ≡ length old + (3 + length entry.value) = ap (λ (l : List ℕ). length l) all ∙ length-append old (entry_text entry) ∙ ap (λ (n : ℕ). length old + n) (length-entry entry) in
      let short = written.1 in
      (whole, omega (arith, count, room, short))

  pub too_long : (old : List ℕ) → IsWritten (Some old) done → LONGEST_TLVS - length old < length entry.value + 3 → IsWritten None (done ++ one ∷ [])
  too_long old written none =
      let count = length-more in
      let same : length old ≡ length (bytes_of done) = ap (λ (l : List ℕ). length l) written.0 in
      omega (arith, count, same, none)

  pub too_long-still : IsWritten None done → IsWritten None (done ++ one ∷ [])
  too_long-still over = let count = length-more in omega (arith, count, over)
