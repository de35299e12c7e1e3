-- A part of what waits, as an outbox lends it.
use Rattle.std.specs.Prelude.{◌≡◌, ℕ, List, [], ◌++◌}

-- these are the first of the bytes, and none only where there are no bytes at all
pub record IsFrontOf (front bytes : List ℕ) : Type 0 where
  pub rest : List ℕ
  pub whole : bytes ≡ front ++ rest
  pub some : front ≡ [] → bytes ≡ []
