-- What reading TLVs answers.
use Rattle.std.specs.Prelude.{◌≡◌, ℕ, ◌+◌, ◌<◌, ◌≤◌, ◌==◌, List, [], ◌∷◌, ◌++◌, length, slice_index, Option, Some, None, Result, Ok, Err, if◌then◌else◌}
use Rattle.kit_bytes.specs.Numbers.{number_at}
use Rattle.tlv_codec.specs.declared.tlv.Tlv.{Tlv}
use Rattle.tlv_codec.specs.declared.tlv.TlvFault.{TlvFault}
use Rattle.tlv_codec.specs.declared.tlv.TlvFault.TheVariants.{ShortHead, ShortValue, OutOfMemory}
use Rattle.tlv_codec.specs.Tlv.{Entry, tlv_text, tlvs_of}

-- where entries stand whose texts follow one another from this place on
abbrev pub spans_of : ℕ → List Entry → List Tlv
spans_of place [] = []
spans_of place (entry ∷ entries) =
    record { kind = entry.kind; start = place + 3; end = place + 3 + length entry.value } ∷ spans_of (place + 3 + length entry.value) entries

abbrev pub first_tlv : ℕ → List Tlv → Option Tlv
first_tlv kind [] = None
first_tlv kind (tlv ∷ tlvs) = if tlv.kind == kind then Some tlv else first_tlv kind tlvs

-- ---- one TLV ----

-- the TLV that begins at this place
pub record StandsAt (bytes : List ℕ) (place : ℕ) (tlv : Tlv) : Type 0 where
  pub is : tlv ≡ record { kind = slice_index bytes place; start = place + 3; end = place + 3 + number_at bytes (place + 1) 2 }
  pub within : tlv.end ≤ length bytes

-- the TLV at a place, or which part of it isn't whole
abbrev pub ReadsTlv : List ℕ → ℕ → Result Tlv TlvFault → Type 0
ReadsTlv bytes place (Ok tlv) = StandsAt bytes place tlv
ReadsTlv bytes place (Err (ShortHead at)) = (at ≡ place) × (length bytes < place + 3)
ReadsTlv bytes place (Err (ShortValue at)) = (at ≡ place) × (place + 3 ≤ length bytes) × (length bytes < place + 3 + number_at bytes (place + 1) 2)
ReadsTlv bytes place (Err OutOfMemory) = ⊥

-- ---- all TLVs ----

-- the bytes are the text of these entries, and the TLVs are the entries' places
pub record AreOf (bytes : List ℕ) (tlvs : List Tlv) (entries : List Entry) : Type 0 where
  pub whole : bytes ≡ tlv_text entries
  pub spans : tlvs ≡ spans_of 0 entries
  pub read : tlvs_of bytes ≡ Some entries

-- the bytes are the text of these entries up to a place, and a rest from there on that is no whole TLV
pub record BreakAt (bytes : List ℕ) (place : ℕ) (entries : List Entry) (rest : List ℕ) : Type 0 where
  pub whole : bytes ≡ tlv_text entries ++ rest
  pub before : place ≡ length (tlv_text entries)
  pub some : 0 < length rest
  pub unread : tlvs_of bytes ≡ None

-- the TLVs, or where the first stands that isn't whole, and which part of it
abbrev pub ReadsTlvs : List ℕ → Result (List Tlv) TlvFault → Type 0
ReadsTlvs bytes (Ok tlvs) = (entries : List Entry) × AreOf bytes tlvs entries
ReadsTlvs bytes (Err (ShortHead place)) = (entries : List Entry) × (rest : List ℕ) × BreakAt bytes place entries rest × (length rest < 3)
ReadsTlvs bytes (Err (ShortValue place)) = (entries : List Entry) × (rest : List ℕ) × BreakAt bytes place entries rest × (3 ≤ length rest) × (length rest < 3 + number_at rest 1 2)
ReadsTlvs bytes (Err OutOfMemory) = Unit {0}
