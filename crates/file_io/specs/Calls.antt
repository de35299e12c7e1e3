-- The calls on files, with their answers.
use Rattle.std.specs.Prelude.{ℕ, Bool, List, take, Result, Ok, Err}
use Rattle.file_io.specs.declared.files.Side.{Side}

pub data Call : Type 0 where
  -- `open`, with the path, what for, and whether it answered Ok
  Opened : (path : List ℕ) (side : Side) (ok : Bool) → Call
  -- `read`, with the bytes that it gave
  Gave : (bytes : List ℕ) → Call
  ReadFailed : Call
  -- `write`, with the bytes that were taken
  Took : (bytes : List ℕ) → Call
  WriteFailed : Call
  Closed : Call

-- a `read` with this answer, which left these bytes in its buffer
abbrev pub read_call : {E : Type 0} → Result ℕ E → List ℕ → Call
read_call (Ok count) buffer = Gave (take count buffer)
read_call (Err e) buffer = ReadFailed

-- a `write` of these bytes with this answer
abbrev pub write_call : {E : Type 0} → Result ℕ E → List ℕ → Call
write_call (Ok count) bytes = Took (take count bytes)
write_call (Err e) bytes = WriteFailed
