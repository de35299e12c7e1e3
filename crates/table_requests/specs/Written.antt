-- TLVs that are written one after another while a message has room for them.
use Rattle.std.specs.Prelude.{◌≡◌, ℕ, ◌<◌, ◌≤◌, List, length, Option, Some, None}
use Rattle.qmux_frame.specs.declared.writing.TheConstants.{LONGEST_TLVS}
use Rattle.table_requests.specs.Requests.{TlvValue, bytes_of}

-- the bytes are those of these values, or there are none as they are too long
abbrev pub IsWritten : Option (List ℕ) → List TlvValue → Type 0
IsWritten (Some bytes) values = (bytes ≡ bytes_of values) × (length bytes ≤ LONGEST_TLVS)
IsWritten None values = LONGEST_TLVS < length (bytes_of values)
