-- The user data of a part are read back.
use Rattle.std.proofs.Common.{◌≡◌, ℕ, suc, ◌+◌, ◌/◌, ◌<◌, ◌≤◌, Bool, true, false, cond, IsTrue, List, ◌∷◌, length, drop, ap, ap₂, ◌∙◌, arith, None}
use Rattle.std.specs.Str.{all_scalars}
use Rattle.kit_bytes.specs.Utf16.{is_utf16, utf16_bytes, utf16_text}
use Rattle.kit_bytes.proofs.RoundTrips.{reads_written}
use Rattle.gsm_text.specs.Alphabet.{chars_of, codes_of, first_outside}
use Rattle.gsm_text.specs.Packing.{digits_of, number_of, pack, unpack}
use Rattle.gsm_text.proofs.Characters.{codes_are_small, reads_back}
use Rattle.gsm_text.proofs.Unpacking.{unpacks_packed}
use Rattle.sms_pdu.specs.declared.pdu.Body.TheVariants.{Written, Raw}
use Rattle.sms_pdu.specs.Reading.{swapped, ucs2_body}
use Rattle.sms_pdu.specs.Parts.{ucs2, units_of}
use Rattle.sms_pdu.proofs.Telling.{swapped_back}

-- ---- UTF-16 ----

pub ucs2_back : (piece : List ℕ) → IsTrue (all_scalars piece) → ucs2_body (ucs2 piece) ≡ Written piece
ucs2_back piece scalars =
    let same : swapped (ucs2 piece) ≡ utf16_bytes piece = swapped_back (units_of false piece) in
    let back = reads_written piece scalars in
    let test : is_utf16 (swapped (ucs2 piece)) ≡ true = ap is_utf16 same ∙ back.0 in
    let text : utf16_text (swapped (ucs2 piece)) ≡ piece = ap utf16_text same ∙ back.1 in
    ap₂ (λ (is : Bool) (l : List ℕ). cond is (Written l) (Raw (ucs2 piece))) test text

-- ---- codes ----

-- codes behind a header of 6 octets, which takes 7 codes' room but for one bit
module _ (a b c d e f : ℕ) (small : (a < 256) × (b < 256) × (c < 256) × (d < 256) × (e < 256) × (f < 256)) (bytes : List ℕ) where
  behind_header : number_of 256 (a ∷ b ∷ c ∷ d ∷ e ∷ f ∷ bytes) / 1 / 128 / 128 / 128 / 128 / 128 / 128 / 128 ≡ number_of 256 bytes / 2
  behind_header = omega (arith, small.0, small.1, small.2, small.3, small.4, small.5)

  pub unpacked_behind : (count : ℕ) → drop 7 (unpack (a ∷ b ∷ c ∷ d ∷ e ∷ f ∷ bytes) 0 (7 + count)) ≡ unpack bytes 1 count
  unpacked_behind count =
      let more : 7 + count ≡ suc (suc (suc (suc (suc (suc (suc count)))))) = omega arith in
      ap (λ (n : ℕ). drop 7 (unpack (a ∷ b ∷ c ∷ d ∷ e ∷ f ∷ bytes) 0 n)) more ∙ ap (digits_of 128 count) behind_header

pub codes_back : (piece : List ℕ) (fill : ℕ) → fill ≤ 6 → first_outside piece ≡ None → chars_of (unpack (pack (codes_of piece) fill) fill (length (codes_of piece))) ≡ piece
codes_back piece fill few coded = ap chars_of (unpacks_packed (codes_of piece) fill (codes_are_small piece) few) ∙ reads_back piece coded
