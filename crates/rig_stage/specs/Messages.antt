-- The first of the messages that stand one behind the other.
use Rattle.std.specs.Prelude.{◌≡◌, ℕ, ◌<◌, ◌≤◌, List, ◌∷◌, length, take, drop}
use Rattle.framing.specs.Framing.{IsMessage}
use Rattle.framing.specs.Cutting.{cut}
use Rattle.proxy_history.specs.Streams.{Framing}

-- the first so many of these bytes are a message, and the others follow it
pub record Splits (size : Framing) (bytes : List ℕ) (count : ℕ) : Type 0 where
  pub some : 0 < count
  pub within : count ≤ length bytes
  pub whole : IsMessage size (take count bytes)
  pub messages : (cut size bytes).messages ≡ take count bytes ∷ (cut size (drop count bytes)).messages
