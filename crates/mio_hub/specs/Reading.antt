-- What a reading gives.
use Rattle.std.specs.Prelude.{ℕ, ◌<◌, ◌≤◌}
use Rattle.mio_hub.specs.declared.peer.Gave.{Gave}
use Rattle.mio_hub.specs.declared.peer.Gave.TheVariants.{Bytes, Nothing, End}

-- bytes that came are some, and fit a buffer of this length
abbrev pub GaveFits : Gave → ℕ → Type 0
GaveFits (Bytes count) room = (0 < count) × (count ≤ room)
GaveFits Nothing room = Unit {0}
GaveFits End room = Unit {0}
