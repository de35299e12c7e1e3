-- What a cutter is seen as, and what it stands for.
use Rattle.std.specs.Prelude.{◌≡◌, ℕ, ◌+◌, ◌-◌, ◌^◌, ◌≤◌, min, List, [], ◌++◌, ◌∷◌, length, take, drop, slice_range, All}
use Rattle.std.specs.List.{concat}
use Rattle.kit_bytes.specs.declared.span.Span.{Span}
use Rattle.kit_bytes.specs.declared.span.Cut.{Cut}
use Rattle.kit_bytes.specs.declared.span.Cut.TheVariants.{Whole, NeedMore, Bad}
use Rattle.framing.specs.declared.framing.Size.{Size}
use Rattle.framing.specs.Framing.{IsMessage, IsPartial, IsBad}
use Rattle.framing.specs.Cutting.{cut}

-- the place in the stream behind the messages given, the bytes given since the last push, and the rest
pub record Reading : Type 0 where
  pub place : ℕ
  pub handed : List ℕ
  pub rest : List ℕ

-- a place as a 64-bit number, the greatest for those past it
abbrev pub place_of : ℕ → ℕ
place_of at = min at (2 ^ 64 - 1)

-- the first so many bytes of the rest were given as this part of the bytes
pub record Gives (old new : Reading) (count : ℕ) (span : Span) : Type 0 where
  pub within : count ≤ length old.rest
  pub handed : new.handed ≡ old.handed ++ take count old.rest
  pub rest : new.rest ≡ drop count old.rest
  pub place : new.place ≡ place_of (old.place + count)
  pub start : span.start ≡ length old.handed
  pub end : span.end ≡ length new.handed

-- the next message was given as this part of the bytes
pub record GivesMessage (size : List ℕ → Size) (old new : Reading) (span : Span) : Type 0 where
  pub count : ℕ
  pub message : IsMessage size (take count old.rest)
  pub gives : Gives old new count span

-- what is found next
abbrev pub Finds : (List ℕ → Size) → Reading → Reading → Cut → Type 0
Finds size old new (Whole span) = GivesMessage size old new span
Finds size old new NeedMore = IsPartial size old.rest × (new ≡ old)
Finds size old new (Bad place) = IsBad size old.rest × (new ≡ old) × (place ≡ old.place)

-- the messages given are the first of this stream, and the rest is what follows them
pub record StandsFor (size : List ℕ → Size) (cutter : Reading) (stream : List ℕ) (given : List (List ℕ)) : Type 0 where
  pub whole : stream ≡ concat given ++ cutter.rest
  pub each : All (IsMessage size) given
  pub place : cutter.place ≡ place_of (length (concat given))

-- these are all the messages of the stream, and the rest is what is left of it
pub record HasGiven (size : List ℕ → Size) (cutter : Reading) (stream : List ℕ) (given : List (List ℕ)) : Type 0 where
  pub messages : (cut size stream).messages ≡ given
  pub rest : (cut size stream).rest ≡ cutter.rest

-- what is found next in a stream of which these messages were given
abbrev pub FindsIn : (List ℕ → Size) → List ℕ → List (List ℕ) → Reading → Cut → Type 0
FindsIn size stream given new (Whole span) = StandsFor size new stream (given ++ slice_range new.handed span.start span.end ∷ [])
FindsIn size stream given new NeedMore = StandsFor size new stream given × HasGiven size new stream given × IsPartial size new.rest
FindsIn size stream given new (Bad place) = StandsFor size new stream given × HasGiven size new stream given × IsBad size new.rest × (place ≡ place_of (length (concat given)))
