-- The buffer by which a client names the device that it wants: where the path stands, in UTF-16, how many bytes it has, and a timeout.
-- Source: the command Configuration in libmbim's data/mbim-service-proxy-control.json.
use Rattle.std.specs.Prelude.{ℕ, ◌+◌, ◌<◌, ◌↔◌, Bool, ◌&&◌, ◌||◌, ◌==◌, nat_le, bytes_eq, IsTrue, List, length, slice_range, All}
use Rattle.std.specs.Str.{all_scalars}
use Rattle.kit_bytes.specs.Utf16.{utf16_bytes}
use Rattle.mbim_frame.specs.Numbers.{u32_at}
use Rattle.mbim_services.specs.Paths.{HasPath}

-- the path lies in the buffer, an empty one anywhere
abbrev pub has_path : List ℕ → Bool
has_path buffer = nat_le 12 (length buffer) && (nat_le (u32_at buffer 0 + u32_at buffer 4) (length buffer) || u32_at buffer 4 == 0)

-- the bytes of the path
abbrev pub path_of : List ℕ → List ℕ
path_of buffer = slice_range buffer (u32_at buffer 0) (u32_at buffer 0 + u32_at buffer 4)

-- the buffer names the device with these characters
abbrev pub names_device : (device : List ℕ) → (buffer : List ℕ) → Bool
names_device device buffer = has_path buffer && bytes_eq (path_of buffer) (utf16_bytes device)

-- so it does exactly where it has the fields of a configuration in the layout of the command, with that path
abbrev pub NamesByItsLayout : Type 0
NamesByItsLayout = (device buffer : List ℕ) → IsTrue (all_scalars device) → All (λ byte. byte < 256) buffer → IsTrue (names_device device buffer) ↔ HasPath buffer (utf16_bytes device)
