-- The frame of an MBIM message: its kind, its length and its number, of four bytes each, and what stands behind them. The length counts all its bytes.
-- Source: the USB-IF MBIM specification 1.0, section 9.1, "MBIM_MESSAGE_HEADER". The longest message is the project's own limit.
use Rattle.std.specs.Prelude.{ℕ, ◌||◌, nat_lt, List, length, if◌then◌else◌}
use Rattle.framing.specs.declared.framing.Size.{Size}
use Rattle.framing.specs.declared.framing.Size.TheVariants.{Unknown, Known, Invalid}
use Rattle.framing.specs.Cutting.{Cutting, cut}
use Rattle.mbim_frame.specs.Numbers.{u32_at}

-- a head of 12 bytes, a fragment head of 8, and a body of 65,536
abbrev pub longest_message : ℕ
longest_message = 65556

-- what the first bytes of a message say of its length: a message has its head at least
abbrev pub size_of : List ℕ → Size
size_of bytes =
    if nat_lt (length bytes) 8 then Unknown
    else if nat_lt (u32_at bytes 4) 12 || nat_lt longest_message (u32_at bytes 4) then Invalid
    else Known (u32_at bytes 4)

-- the whole messages of an MBIM stream, and its rest
abbrev pub mbim_cut : List ℕ → Cutting
mbim_cut stream = cut size_of stream
