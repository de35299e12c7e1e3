-- What a look for the first TLV of a kind answers.
use Rattle.std.specs.Prelude.{◌≡◌, ℕ, ◌≤◌, List, length, slice_range, Some, None}
use Rattle.tlv_codec.specs.declared.tlv.Tlv.{Tlv}
use Rattle.tlv_codec.specs.declared.look.First.{First}
use Rattle.tlv_codec.specs.declared.look.First.TheVariants.{Found, Missing, Unread}
use Rattle.tlv_codec.specs.Tlv.{Entry, tlvs_of, first_value}
use Rattle.tlv_codec.specs.Reading.{spans_of, first_tlv}

-- the value that stands at a TLV's place is the first of a kind
pub record HoldsFirst (bytes : List ℕ) (kind : ℕ) (entries : List Entry) (tlv : Tlv) : Type 0 where
  pub ordered : tlv.start ≤ tlv.end
  pub within : tlv.end ≤ length bytes
  pub value : first_value kind entries ≡ Some (slice_range bytes tlv.start tlv.end)

-- the first TLV of a kind in the list that the bytes are, if they are one
abbrev pub FindsFirst : List ℕ → ℕ → First → Type 0
FindsFirst bytes kind (Found tlv) = (entries : List Entry) × (tlvs_of bytes ≡ Some entries) × (first_tlv kind (spans_of 0 entries) ≡ Some tlv) × HoldsFirst bytes kind entries tlv
FindsFirst bytes kind Missing = (entries : List Entry) × (tlvs_of bytes ≡ Some entries) × (first_value kind entries ≡ None)
FindsFirst bytes kind Unread = tlvs_of bytes ≡ None
