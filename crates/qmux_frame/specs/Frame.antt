-- The frame of a QMUX message: the byte 0x01, a length of 16 bits that counts every byte behind the first, and the rest.
-- Source: `struct qmux` and `qmi_message_check` in libqmi's src/libqmi-glib/qmi-message.c.
use Rattle.std.specs.Prelude.{ℕ, ◌+◌, not, ◌==◌, nat_lt, List, length, slice_index, if◌then◌else◌}
use Rattle.kit_bytes.specs.Numbers.{number_at}
use Rattle.framing.specs.declared.framing.Size.{Size}
use Rattle.framing.specs.declared.framing.Size.TheVariants.{Unknown, Known, Invalid}
use Rattle.framing.specs.Cutting.{Cutting, cut}

-- what the first bytes of a message say of its length: a message has a head of 12 bytes at least
abbrev pub size_of : List ℕ → Size
size_of bytes =
    if length bytes == 0 then Unknown
    else if not (slice_index bytes 0 == 1) then Invalid
    else if nat_lt (length bytes) 3 then Unknown
    else if nat_lt (number_at bytes 1 2) 11 then Invalid
    else Known (number_at bytes 1 2 + 1)

-- the whole messages of a QMUX stream, and its rest
abbrev pub qmux_cut : List ℕ → Cutting
qmux_cut stream = cut size_of stream
