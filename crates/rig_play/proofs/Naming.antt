-- The path by which a client names the device.
use Rattle.std.proofs.Common.{◌≡◌, ℕ, List, refl, sym, ◌∙◌}
use Rattle.std.proofs.lemmas.Str.{encodes_same}
use Rattle.std.specs.Str.{encode_utf8_all}
use Rattle.std.specs.Char.{encode_utf8}
use Rattle.rig_runs.specs.Rig.{device}

device_is_ascii : encode_utf8_all device ≡ device
unfolding encode_utf8
device_is_ascii = refl

pub is_device : (path : List ℕ) → encode_utf8_all path ≡ device → path ≡ device
is_device path is = encodes_same path device (is ∙ sym device_is_ascii)
