-- What is known of the stream that goes to a node, from one piece to the next.
use Rattle.std.specs.Prelude.{◌≡◌, ◌⊎◌, ℕ, ◌+◌, ◌<◌, ◌≤◌, true, false, List, length, take, drop, Option, Some, None}
use Rattle.framing.specs.Framing.{IsMessage, IsPartial, IsBad}
use Rattle.framing.specs.Cutting.{cut}
use Rattle.node_frame.specs.Frame.{size_of}
use Rattle.pump.specs.declared.stream.Stream.{Stream}

-- what has begun of a message is kept, and all of it is written
pub record AwaitsMore (stream : Stream) : Type 0 where
  pub partial : IsPartial size_of stream.cutter.rest
  pub short : length stream.cutter.rest < 65556
  pub begun : stream.begun ≡ length stream.cutter.rest

-- the next piece may come
abbrev pub IsReady : Stream → Type 0
IsReady stream = stream.is_framed ≡ true → AwaitsMore stream

-- these bytes have come so far
pub record StandsFor (stream : Stream) (before : List ℕ) : Type 0 where
  pub framed : stream.is_framed ≡ true → (cut size_of before).rest ≡ stream.cutter.rest
  pub bad : stream.is_framed ≡ false → IsBad size_of (cut size_of before).rest

-- the first so many bytes that are kept begin a message
pub record HasBegun (stream : Stream) : Type 0 where
  pub within : stream.begun ≤ length stream.cutter.rest
  pub partial : IsPartial size_of (take stream.begun stream.cutter.rest)

-- the next message has so many bytes behind those that were written of it
pub record PassesMessage (old : Stream) (count : ℕ) (new : Stream) : Type 0 where
  pub some : 0 < count
  pub within : old.begun + count ≤ length old.cutter.rest
  pub message : IsMessage size_of (take (old.begun + count) old.cutter.rest)
  pub rest : new.cutter.rest ≡ drop (old.begun + count) old.cutter.rest
  pub begun : new.begun ≡ 0
  pub framed : new.is_framed ≡ old.is_framed

-- no message is whole, or none begins so
pub record PassesNone (old new : Stream) : Type 0 where
  pub rest : new.cutter.rest ≡ old.cutter.rest
  pub begun : new.begun ≡ old.begun
  pub none : (IsPartial size_of old.cutter.rest × (length old.cutter.rest < 65556) × (new.is_framed ≡ old.is_framed)) ⊎ (IsBad size_of old.cutter.rest × (new.is_framed ≡ false))

abbrev pub Passes : Stream → Option ℕ → Stream → Type 0
Passes old (Some count) new = PassesMessage old count new
Passes old None new = PassesNone old new
