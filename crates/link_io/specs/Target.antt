-- Where a link leads, and how much a `take` gives.
use Rattle.std.specs.Prelude.{ℕ, ◌<◌, ◌≤◌, List}
use Rattle.std.specs.Str.{encode_utf8_all}
use Rattle.link_io.specs.declared.link.Target.{Target}
use Rattle.link_io.specs.declared.link.Target.TheVariants.{Socket, Bridge}
use Rattle.link_io.specs.declared.link.Taken.{Taken}
use Rattle.link_io.specs.declared.link.Taken.TheVariants.{Bytes, Quiet, End}

-- a socket, or a bridge, by the bytes of its path
pub data Address : Type 0 where
  AtSocket : (path : List ℕ) → Address
  AtBridge : (path : List ℕ) → Address

abbrev pub address_of : Target → Address
address_of (Socket path) = AtSocket (encode_utf8_all path)
address_of (Bridge path) = AtBridge (encode_utf8_all path)

-- bytes that came are some, and fit a buffer of this length
abbrev pub IsWithin : Taken → ℕ → Type 0
IsWithin (Bytes count) room = (0 < count) × (count ≤ room)
IsWithin Quiet room = Unit {0}
IsWithin End room = Unit {0}
