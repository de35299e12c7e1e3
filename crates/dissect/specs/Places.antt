-- The entries that stand at places of some bytes.
use Rattle.std.specs.Prelude.{◌≤◌, ℕ, List, length, slice_range}
use Rattle.tlv_codec.specs.declared.tlv.Tlv.{Tlv}
use Rattle.tlv_codec.specs.Tlv.{Entry}

-- the place is inside the bytes
pub record StandsWithin (bytes : List ℕ) (tlv : Tlv) : Type 0 where
  pub ordered : tlv.start ≤ tlv.end
  pub within : tlv.end ≤ length bytes

-- the entry that stands there
abbrev pub entry_at : List ℕ → Tlv → Entry
entry_at bytes tlv = record { kind = tlv.kind; value = slice_range bytes tlv.start tlv.end }
