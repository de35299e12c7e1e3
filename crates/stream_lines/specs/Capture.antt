-- What is done to the files, and what is taken of the lines, where a captured stream is shown.
use Rattle.std.specs.Prelude.{◌≡◌, ℕ, ◌<◌, ◌==◌, true, false, if◌then◌else◌, List, [], ◌∷◌, ◌++◌, length, map, All, Option}
use Rattle.std.specs.List.{concat}
use Rattle.kit_io.specs.Growth.{Grows}
use Rattle.file_io.specs.declared.files.Side.TheVariants.{Read}
use Rattle.file_io.specs.Calls.{Call, Opened, Gave, ReadFailed, Closed}
use Rattle.framing.specs.declared.framing.Size.{Size}
use Rattle.framing.specs.Framing.{IsBad, IsPartial}
use Rattle.framing.specs.Cutting.{cut}
use Rattle.stream_lines.specs.declared.end.DissectEnd.{DissectEnd}
use Rattle.stream_lines.specs.declared.end.DissectEnd.TheVariants.{Done, Broken, ReadFault, WriteFault, TurnsSpent, OutOfMemory}
use Rattle.stream_lines.specs.Lines.{rest_place}

-- ---- how it ends ----

-- a stream of so many bytes that has ended, whose next message would begin at a place
abbrev pub end_by : (came place : ℕ) → DissectEnd
end_by came place = if came == place then Done else Broken place

-- the stream that these bytes are has ended: behind a whole message, or within the one that begins behind the whole ones
abbrev pub end_of : (List ℕ → Size) → List ℕ → DissectEnd
end_of size bytes = end_by (length bytes) (rest_place size bytes)

-- what was taken is a front of all the lines, and holds those of all that was read but the last piece
pub record IsCutShort (all earlier taken : List ℕ) : Type 0 where
  pub rest : List ℕ
  pub whole : all ≡ taken ++ rest
  pub more : List ℕ
  pub holds : taken ≡ earlier ++ more

-- how it ends behind so many reads that gave these bytes, with these last calls, and what is taken by then of the lines
pub data Ends (size : List ℕ → Size) (lines : List ℕ → List ℕ) (turns count : ℕ) (bytes : List ℕ) (end : DissectEnd) (calls : List Call) (taken : List ℕ) : Type 0 where
  found_end : count < turns → calls ≡ Gave [] ∷ [] → end ≡ end_of size bytes → taken ≡ lines bytes → Ends size lines turns count bytes end calls taken
  read_failed : count < turns → calls ≡ ReadFailed ∷ [] → end ≡ ReadFault → taken ≡ lines bytes → Ends size lines turns count bytes end calls taken
  turns_spent : count ≡ turns → calls ≡ [] → end ≡ TurnsSpent → taken ≡ lines bytes → Ends size lines turns count bytes end calls taken
  -- no message begins behind the whole ones, where one might have begun before the last piece
  went_bad : (piece : List ℕ) → count < turns → 0 < length piece → calls ≡ Gave piece ∷ [] → IsBad size (cut size (bytes ++ piece)).rest
      → end ≡ Broken (rest_place size (bytes ++ piece)) → taken ≡ lines (bytes ++ piece) → Ends size lines turns count bytes end calls taken
  write_failed : (piece : List ℕ) → count < turns → 0 < length piece → calls ≡ Gave piece ∷ [] → end ≡ WriteFault
      → IsCutShort (lines (bytes ++ piece)) (lines bytes) taken → Ends size lines turns count bytes end calls taken
  no_memory : (piece : List ℕ) → count < turns → 0 < length piece → calls ≡ Gave piece ∷ [] → end ≡ OutOfMemory
      → IsCutShort (lines (bytes ++ piece)) (lines bytes) taken → Ends size lines turns count bytes end calls taken

-- ---- the reads ----

-- pieces were read, behind which a message may go on, before it ended
pub record ShowsReads (size : List ℕ → Size) (lines : List ℕ → List ℕ) (turns : ℕ) (end : DissectEnd) (calls : List Call) (taken : List ℕ) : Type 0 where
  pub pieces : List (List ℕ)
  pub last : List Call
  pub each : All (λ piece. 0 < length piece) pieces
  pub partial : IsPartial size (cut size (concat pieces)).rest
  pub ends : Ends size lines turns (length pieces) (concat pieces) end last taken
  pub are : calls ≡ map Gave pieces ++ last

-- the capture at a path is opened, its reads are shown, and it is closed
pub data ShowsCapture (size : List ℕ → Size) (lines : List ℕ → List ℕ) (turns : ℕ) (path : List ℕ) (end : DissectEnd) (calls : List Call) (taken : List ℕ) : Type 0 where
  no_room : end ≡ OutOfMemory → calls ≡ [] → taken ≡ [] → ShowsCapture size lines turns path end calls taken
  not_opened : end ≡ ReadFault → calls ≡ Opened path Read false ∷ [] → taken ≡ [] → ShowsCapture size lines turns path end calls taken
  opened : (reads : List Call) → ShowsReads size lines turns end reads taken → calls ≡ (Opened path Read true ∷ reads) ++ Closed ∷ [] → ShowsCapture size lines turns path end calls taken

-- the calls and what was taken have grown so
pub record GrowBy (Holds : List Call → List ℕ → Type 0) (calls_before : Option (List Call)) (taken_before : Option (List ℕ)) (calls_after : Option (List Call)) (taken_after : Option (List ℕ)) : Type 0 where
  pub calls : List Call
  pub taken : List ℕ
  pub holds : Holds calls taken
  pub calls_grow : Grows calls_before calls calls_after
  pub taken_grow : Grows taken_before taken taken_after
