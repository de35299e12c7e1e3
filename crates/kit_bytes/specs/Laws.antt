-- Laws of texts in bytes, and an example of merged subscriptions.
use Rattle.std.specs.Prelude.{◌≡◌, ℕ, ◌<◌, List, [], ◌∷◌, IsTrue, All, Some, None}
use Rattle.std.specs.Str.{all_scalars}
use Rattle.kit_bytes.specs.Utf16.{utf16_bytes, utf16_text, is_utf16}
use Rattle.kit_bytes.specs.Subscriptions.{merge}
use Rattle.kit_bytes.specs.declared.services.TheConstants.{SMS}

-- reading gives back the characters that were written
abbrev pub GivesBackChars : Type 0
GivesBackChars = (chars : List ℕ) → IsTrue (all_scalars chars) → IsTrue (is_utf16 (utf16_bytes chars)) × (utf16_text (utf16_bytes chars) ≡ chars)

-- writing gives back the bytes that were read
abbrev pub GivesBackBytes : Type 0
GivesBackBytes = (bytes : List ℕ) → All (λ byte. byte < 256) bytes → IsTrue (is_utf16 bytes) → utf16_bytes (utf16_text bytes) ≡ bytes

-- a CID of SMS, all CIDs of it, and another CID of it merge into all CIDs of it
abbrev pub AllTakesSinglesIn : Type 0
AllTakesSinglesIn = merge (((SMS, Some 2) ∷ []) ∷ ((SMS, None) ∷ []) ∷ ((SMS, Some 3) ∷ []) ∷ []) ≡ (SMS, None) ∷ []
