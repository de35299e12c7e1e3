-- What a pump that writes to a node does once it has begun: the calls that it makes on the link and on the files, the oldest first.
use Rattle.std.specs.Prelude.{◌≡◌, ℕ, ◌<◌, List, [], ◌∷◌, ◌++◌, length, map, All, Option, Result, Ok, Err}
use Rattle.std.specs.List.{concat, AllByRecursion}
use Rattle.kit_io.specs.Growth.{Grows}
use Rattle.link_io.specs.Calls as link
use Rattle.file_io.specs.Calls as file
use Rattle.pump.specs.Writes.{writes_behind, writes_of}
use Rattle.pump.specs.declared.ending.PumpEnd.{PumpEnd}
use Rattle.pump.specs.declared.ending.PumpEnd.TheVariants.{Ended, LinkFault, WriteFault, TurnsSpent}

-- ---- writes ----

-- all parts of some writes
abbrev pub all_parts : List (List (List ℕ)) → List (List ℕ)
all_parts [] = []
all_parts (write ∷ writes) = write ++ all_parts writes

-- the calls make these writes, each in as many parts as the file took of it
pub record AllWritten (writes : List (List ℕ)) (calls : List file.Call) : Type 0 where
  pub parts : List (List (List ℕ))
  pub each : AllByRecursion (λ part. 0 < length part) (all_parts parts)
  pub whole : map concat parts ≡ writes
  pub are : calls ≡ map file.Took (all_parts parts)

-- the calls make the first of these writes and a front of the next one, and then one failed
pub record FrontWritten (writes : List (List ℕ)) (calls : List file.Call) : Type 0 where
  pub parts : List (List (List ℕ))
  pub front : List (List ℕ)
  pub rest : List ℕ
  pub later : List (List ℕ)
  pub each : AllByRecursion (λ part. 0 < length part) (all_parts parts ++ front)
  pub left : 0 < length rest
  pub whole : map concat parts ++ (concat front ++ rest) ∷ later ≡ writes
  pub are : calls ≡ map file.Took (all_parts parts ++ front) ++ file.WriteFailed ∷ []

abbrev pub Wrote : {T E : Type 0} → List (List ℕ) → Result T E → List file.Call → Type 0
Wrote writes (Ok t) calls = AllWritten writes calls
Wrote writes (Err e) calls = FrontWritten writes calls

-- the calls have grown by these writes, or by a front of them where the writing failed
pub record WritesAll {T E : Type 0} (writes : List (List ℕ)) (old : Option (List file.Call)) (result : Result T E) (new : Option (List file.Call)) : Type 0 where
  pub calls : List file.Call
  pub are : Wrote writes result calls
  pub grows : Grows old calls new

-- ---- take after take ----

-- a `take` that gave bytes, or nothing in its time
abbrev pub IsPassed : link.Call → Type 0
IsPassed (link.Took bytes) = 0 < length bytes
IsPassed link.WasQuiet = Unit {0}
IsPassed _ = ⊥

abbrev pub bytes_of : link.Call → List ℕ
bytes_of (link.Took bytes) = bytes
bytes_of _ = []

-- the bytes that some takes gave
abbrev pub taken : List link.Call → List ℕ
taken takes = concat (map bytes_of takes)

-- how it ends after this many takes, which gave these bytes, with these last calls of each side
pub data EndsWriting (turns count : ℕ) (before : List ℕ) (end : PumpEnd) (takes : List link.Call) (written : List file.Call) : Type 0 where
  found_end : end ≡ Ended → count < turns → takes ≡ link.WasEnd ∷ [] → written ≡ [] → EndsWriting turns count before end takes written
  take_failed : end ≡ LinkFault → count < turns → takes ≡ link.TakeFailed ∷ [] → written ≡ [] → EndsWriting turns count before end takes written
  -- of the last piece's writes a front was written
  write_failed : (piece : List ℕ) → end ≡ WriteFault → count < turns → 0 < length piece → takes ≡ link.Took piece ∷ []
      → FrontWritten (writes_behind before piece) written → EndsWriting turns count before end takes written
  turns_spent : end ≡ TurnsSpent → count ≡ turns → takes ≡ [] → written ≡ [] → EndsWriting turns count before end takes written

-- the writes were made of all that some takes gave, before it ended
pub record WritesTakes (turns : ℕ) (end : PumpEnd) (on_link : List link.Call) (on_files : List file.Call) : Type 0 where
  pub takes : List link.Call
  pub writes : List file.Call
  pub last_takes : List link.Call
  pub last_writes : List file.Call
  pub each : All IsPassed takes
  pub all : AllWritten (writes_of [] (map bytes_of takes)) writes
  pub ends : EndsWriting turns (length takes) (taken takes) end last_takes last_writes
  pub took : on_link ≡ takes ++ last_takes
  pub written : on_files ≡ writes ++ last_writes
