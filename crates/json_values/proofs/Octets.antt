-- Texts of bytes that are UTF-8, and of others.
use Rattle.std.proofs.Common.{◌≡◌, ℕ, Bool, true, false, List, codes, refl, ap, if◌then◌else◌}
use Rattle.std.proofs.lemmas.Str.{IsUtf8-from_is_utf8, is_utf8-from_IsUtf8}
use Rattle.std.specs.Str.{IsUtf8, is_utf8}
use Rattle.serde_json.specs.Data.{Data, string as quoted, object, member, no_members}
use Rattle.json_values.specs.Json.{hexadecimal, text_json}

pub utf8_text : (octets text : List ℕ) → text ≡ octets → IsUtf8 octets → quoted text ≡ text_json octets
unfolding text_json
utf8_text octets text same utf8 = rw (is_utf8-from_IsUtf8 octets utf8) (ap quoted same)

pub other_text : (octets : List ℕ) → ¬ (IsUtf8 octets) → object (member (codes "hex") (hexadecimal octets) no_members) ≡ text_json octets
unfolding text_json
other_text octets none =
    let digits : Data = object (member (codes "hex") (hexadecimal octets) no_members) in
    let step : (b : Bool) → is_utf8 octets ≡ b → digits ≡ (if b then quoted octets else digits) =
    λ b. elim b as (λ b. is_utf8 octets ≡ b → digits ≡ (if b then quoted octets else digits)) [ true ↦ λ e. absurd (none (IsUtf8-from_is_utf8 octets e)) | false ↦ λ e. refl ] in
    step (is_utf8 octets) refl
