-- TLVs: values, each behind a type of one byte and a length of two bytes.
-- Source: `struct tlv` in libqmi's src/libqmi-glib/qmi-message.c.
use Rattle.std.specs.Prelude.{ℕ, ◌+◌, ◌==◌, nat_lt, List, [], ◌∷◌, ◌++◌, length, map, drop, slice_index, Option, Some, None, option_and_then, if◌then◌else◌}
use Rattle.kit_bytes.specs.Numbers.{number_at, u16_bytes}
use Rattle.framing.specs.declared.framing.Size.{Size}
use Rattle.framing.specs.declared.framing.Size.TheVariants.{Unknown, Known}
use Rattle.framing.specs.Cutting.{cut}

pub record Entry : Type 0 where
  pub kind : ℕ
  pub value : List ℕ

-- ---- writing ----

abbrev pub entry_text : Entry → List ℕ
entry_text entry = entry.kind ∷ u16_bytes (length entry.value) ++ entry.value

-- the entries one after another
abbrev pub tlv_text : List Entry → List ℕ
tlv_text [] = []
tlv_text (entry ∷ entries) = entry_text entry ++ tlv_text entries

-- ---- reading: a list of TLVs is cut as a stream is, and nothing may be left ----

-- what the first bytes of a TLV say of its length
abbrev pub tlv_size : List ℕ → Size
tlv_size bytes = if nat_lt (length bytes) 3 then Unknown else Known (3 + number_at bytes 1 2)

-- the TLV that these bytes are
abbrev pub entry_of : List ℕ → Entry
entry_of bytes = record { kind = slice_index bytes 0; value = drop 3 bytes }

abbrev pub entries_in : List (List ℕ) → List ℕ → Option (List Entry)
entries_in texts [] = Some (map entry_of texts)
entries_in texts (byte ∷ rest) = None

-- the TLVs that these bytes are, where they are whole TLVs
abbrev pub tlvs_of : List ℕ → Option (List Entry)
tlvs_of bytes = entries_in (cut tlv_size bytes).messages (cut tlv_size bytes).rest

-- the value of the first entry of a kind
abbrev pub first_value : ℕ → List Entry → Option (List ℕ)
first_value kind [] = None
first_value kind (entry ∷ entries) = if entry.kind == kind then Some entry.value else first_value kind entries

-- the value of the first TLV of a type, where these bytes are TLVs and have one
abbrev pub tlv_value : ℕ → List ℕ → Option (List ℕ)
tlv_value kind tlvs = option_and_then (first_value kind) (tlvs_of tlvs)
