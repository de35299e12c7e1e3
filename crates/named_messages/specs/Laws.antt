-- Laws of the ranges that are told.
use Rattle.std.specs.Prelude.{◌≡◌, ◌+◌, ◌/◌, ℕ, pos, negsuc, nat_le}
use Rattle.qmi_shapes.specs.WellMade.{IsSize}
use Rattle.tlv_values.specs.Spelling.{unsigned_fits, signed_fits}
use Rattle.named_messages.specs.Described.{largest}

-- numbers and counts of so many bytes are those up to the largest, and negative ones those up to one more than its half
abbrev pub AreWhatFits : Type 0
AreWhatFits = (size n : ℕ) → IsSize size
    → (unsigned_fits size n ≡ nat_le n (largest size)) × (signed_fits size (pos n) ≡ nat_le n (largest size / 2)) × (signed_fits size (negsuc n) ≡ nat_le (n + 1) (largest size / 2 + 1))
