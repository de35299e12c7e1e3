-- The calls on a link, with their answers.
use Rattle.std.specs.Prelude.{◌≡◌, ℕ, Bool, true, false, List, [], ◌∷◌, ◌++◌, take, Option, Result, Ok, Err}
use Rattle.kit_io.specs.Growth.{Grows}
use Rattle.link_io.specs.Target.{Address}
use Rattle.link_io.specs.declared.link.Taken.{Taken}
use Rattle.link_io.specs.declared.link.Taken.TheVariants.{Bytes, Quiet, End}

pub data Call : Type 0 where
  -- `open`, with the address and whether it answered Ok
  Opened : (address : Address) (ok : Bool) → Call
  -- `pair`, with whether it answered Ok
  Paired : (ok : Bool) → Call
  -- `send`, with the bytes that were sent and whether it answered Ok
  Sent : (bytes : List ℕ) (ok : Bool) → Call
  -- `take`, with what it gave
  Took : (bytes : List ℕ) → Call
  WasQuiet : Call
  WasEnd : Call
  TakeFailed : Call
  Closed : Call

-- a `take` with this answer, which left these bytes in its buffer
abbrev pub take_call : {E : Type 0} → Result Taken E → List ℕ → Call
take_call (Ok (Bytes count)) buffer = Took (take count buffer)
take_call (Ok Quiet) buffer = WasQuiet
take_call (Ok End) buffer = WasEnd
take_call (Err e) buffer = TakeFailed

-- the calls have grown by a failed `send` of a front of these bytes
pub record SendsFront (old : Option (List Call)) (bytes : List ℕ) (new : Option (List Call)) : Type 0 where
  pub front : List ℕ
  pub rest : List ℕ
  pub whole : bytes ≡ front ++ rest
  pub grows : Grows old (Sent front false ∷ []) new

-- the calls have grown by a `send` of all the bytes, or, where it failed, of a front of them
abbrev pub Sends : {T E : Type 0} → Option (List Call) → List ℕ → Result T E → Option (List Call) → Type 0
Sends old bytes (Ok t) new = Grows old (Sent bytes true ∷ []) new
Sends old bytes (Err e) new = SendsFront old bytes new

-- once a `take` has answered that the other side has ended, each one does
pub record EndsForGood {E : Type 0} (before : Bool) (result : Result Taken E) (after : Bool) : Type 0 where
  pub stays : before ≡ true → after ≡ true
  pub answers : before ≡ true → result ≡ Ok End
  pub marks : result ≡ Ok End → after ≡ true
