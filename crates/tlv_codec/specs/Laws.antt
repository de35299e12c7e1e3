-- Laws of texts and of reading them.
use Rattle.std.specs.Prelude.{◌≡◌, ℕ, List, ◌++◌, Some}
use Rattle.framing.specs.Framing.{AreBytes, IsPartial}
use Rattle.tlv_codec.specs.declared.tlv.Tlv.{Tlv}
use Rattle.tlv_codec.specs.Tlv.{Entry, tlv_text, tlv_size, tlvs_of}
use Rattle.tlv_codec.specs.Reading.{spans_of, first_tlv}
use Rattle.tlv_codec.specs.Looking.{HoldsFirst}

-- bytes are the text of at most one list of entries
abbrev pub IsOfOneList : Type 0
IsOfOneList = (a b : List Entry) → tlv_text a ≡ tlv_text b → a ≡ b

-- bytes break off behind at most one list of entries, with one rest that isn't whole
abbrev pub IsOfOneBreak : Type 0
IsOfOneBreak = (a b : List Entry) (r s : List ℕ) → IsPartial tlv_size r → IsPartial tlv_size s → tlv_text a ++ r ≡ tlv_text b ++ s → (a ≡ b) × (r ≡ s)

-- reading gives back what was written
abbrev pub GivesBack : Type 0
GivesBack = (entries : List Entry) → tlvs_of (tlv_text entries) ≡ Some entries

-- bytes that are read are the text of what was read
abbrev pub IsWhatWasRead : Type 0
IsWhatWasRead = (bytes : List ℕ) (entries : List Entry) → AreBytes bytes → tlvs_of bytes ≡ Some entries → bytes ≡ tlv_text entries

-- the first place of a kind holds the first value of that kind
abbrev pub IsFirstValue : Type 0
IsFirstValue = (entries : List Entry) (kind : ℕ) (tlv : Tlv) → first_tlv kind (spans_of 0 entries) ≡ Some tlv → HoldsFirst (tlv_text entries) kind entries tlv
