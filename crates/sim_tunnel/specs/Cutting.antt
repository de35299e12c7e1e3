-- The first of a QMI modem's messages.
use Rattle.std.specs.Prelude.{◌≡◌, ℕ, ◌<◌, ◌≤◌, List, ◌∷◌, length, take, drop}
use Rattle.qmux_frame.specs.Frame.{qmux_cut}

-- the first so many of these bytes are one, and the others follow it
pub record Begins (bytes : List ℕ) (count : ℕ) : Type 0 where
  pub some : 0 < count
  pub within : count ≤ length bytes
  pub messages : (qmux_cut bytes).messages ≡ take count bytes ∷ (qmux_cut (drop count bytes)).messages
