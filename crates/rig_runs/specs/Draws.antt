-- What is drawn from a number.
-- Source: the linear congruential generator of MMIX, in D. E. Knuth, The Art of Computer Programming, volume 2, section 3.3.4.
use Rattle.std.specs.Prelude.{ℕ, zero, suc, ◌+◌, ◌*◌, ◌/◌, ◌%◌, ◌^◌, List, [], ◌∷◌}

-- the number that is drawn after this one
unfoldable pub next : ℕ → ℕ
next x = (x * 6364136223846793005 + 1442695040888963407) % 2 ^ 64

-- a number below `below`, from the upper bits of one that was drawn
abbrev pub drawn : (below x : ℕ) → ℕ
drawn below x = x / 2 ^ 33 % below

-- who may do something, and what it may be
pub record Turn : Type 0 where
  -- a client, counted from 1
  pub client : ℕ
  -- a number below 8
  pub choice : ℕ

-- the turn that is drawn after this number: first the client, then the choice
abbrev pub turn_after : (clients x : ℕ) → Turn
turn_after clients x = record { client = drawn clients (next x) + 1; choice = drawn 8 (next (next x)) }

-- so many turns, drawn one after another
unfoldable pub turns_after : (clients count x : ℕ) → List Turn
turns_after clients zero x = []
turns_after clients (suc count) x = turn_after clients x ∷ turns_after clients count (next (next x))
