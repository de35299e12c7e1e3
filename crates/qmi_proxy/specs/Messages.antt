-- What the proxy reads off one message of QMI.
-- Source: libqmi's src/libqmi-glib/qmi-proxy.c.
use Rattle.std.specs.Prelude.{ℕ, Bool, true, false, not, ◌&&◌, ◌||◌, ◌==◌, if◌then◌else◌, List, length, slice_index, Option, Some, None, bytes_eq}
use Rattle.qmux_frame.specs.Head.{service_of, is_control, cid_of, flags_of, is_framed, tlvs_in}
use Rattle.qmux_frame.specs.Control.{is_allocate, is_release, is_proxy_open}
use Rattle.tlv_codec.specs.Tlv.{tlv_value}
use Rattle.tlv_codec.specs.Outcome as outcome

-- ---- TLVs ----

-- the value of the message's first TLV of this type, where its TLVs read and one of them has it
abbrev pub value_of : ℕ → List ℕ → Option (List ℕ)
value_of kind m = tlv_value kind (tlvs_in m)

abbrev pub is_there : Option (List ℕ) → Bool
is_there None = false
is_there (Some value) = true

abbrev pub has_length : ℕ → Option (List ℕ) → Bool
has_length count None = false
has_length count (Some value) = length value == count

abbrev pub equals : List ℕ → Option (List ℕ) → Bool
equals bytes None = false
equals bytes (Some value) = bytes_eq value bytes

-- a byte of a value, 0 where there is none
abbrev pub byte_of : ℕ → Option (List ℕ) → ℕ
byte_of at None = 0
byte_of at (Some value) = slice_index value at

-- the Result TLV says success
abbrev pub is_success : List ℕ → Bool
is_success m = outcome.is_success (outcome.outcome_in (tlvs_in m))

-- a Proxy Open of this device
abbrev pub opens : List ℕ → List ℕ → Bool
opens device m = is_proxy_open m && equals device (value_of 0x01 m)

-- ---- what is wrong with a client's message ----

-- its head, or the TLV that the proxy needs of it, is out of form
abbrev pub is_malformed : List ℕ → Bool
is_malformed m =
    not (is_framed m) || not (flags_of m == 0) || (is_control m && not (cid_of m == 0))
    || (is_proxy_open m && not (is_there (value_of 0x01 m)))
    || (is_allocate m && not (has_length 1 (value_of 0x01 m)))
    || (is_release m && not (has_length 2 (value_of 0x01 m)))

-- a message uses a client id: of another service than 0 the one in its head, of Release the one that it names
abbrev pub uses_id : List ℕ → Bool
uses_id m = not (is_control m) || is_release m

abbrev pub used_service : List ℕ → ℕ
used_service m = if is_control m then byte_of 0 (value_of 0x01 m) else service_of m

abbrev pub used_cid : List ℕ → ℕ
used_cid m = if is_control m then byte_of 1 (value_of 0x01 m) else cid_of m

-- no client has this id: 0 is service 0's, and 255 is everybody's
abbrev pub has_bad_id : List ℕ → Bool
has_bad_id m = uses_id m && (used_service m == 0 || (used_cid m == 0) || (used_cid m == 255))
