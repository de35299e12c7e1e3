-- What the reading of a whole file comes to.
use Rattle.std.specs.Prelude.{◌≡◌, ℕ, ◌<◌, ◌≤◌, true, false, List, [], ◌∷◌, ◌++◌, length, map, All, Option, Result, Ok, Err}
use Rattle.std.specs.List.{concat}
use Rattle.kit_io.specs.Growth.{Grows}
use Rattle.file_io.specs.declared.files.Side.TheVariants.{Read}
use Rattle.file_io.specs.declared.reading.FileFault.{FileFault}
use Rattle.file_io.specs.declared.reading.FileFault.TheVariants.{ReadFault, Long, OutOfMemory}
use Rattle.file_io.specs.Calls.{Call, Opened, Gave, ReadFailed, Closed}

-- a file that is read has at most so many bytes
abbrev pub longest_file : ℕ
longest_file = 16777216

-- which read decides, where these bytes were read before it
abbrev pub Decides : List ℕ → Call → Result (List ℕ) FileFault → Type 0
Decides before last (Ok bytes) = (last ≡ Gave []) × (bytes ≡ before)
Decides before last (Err ReadFault) = last ≡ ReadFailed
Decides before last (Err Long) = (piece : List ℕ) × (last ≡ Gave piece) × (longest_file < length (before ++ piece))
Decides before last (Err OutOfMemory) = (piece : List ℕ) × (last ≡ Gave piece) × (0 < length piece) × (length (before ++ piece) ≤ longest_file)

-- reads with this result: they gave pieces, together no more than the limit, and the last one decided
pub record Reads (calls : List Call) (result : Result (List ℕ) FileFault) : Type 0 where
  pub pieces : List (List ℕ)
  pub last : Call
  pub are : calls ≡ map Gave pieces ++ last ∷ []
  pub each : All (λ piece. 0 < length piece) pieces
  pub short : length (concat pieces) ≤ longest_file
  pub decided : Decides (concat pieces) last result

-- the reading of a file: one that opened is read and then closed
pub data ReadsFile (path : List ℕ) (calls : List Call) (result : Result (List ℕ) FileFault) : Type 0 where
  not_opened : calls ≡ Opened path Read false ∷ [] → result ≡ Err ReadFault → ReadsFile path calls result
  opened : (reads : List Call) → Reads reads result → calls ≡ (Opened path Read true ∷ reads) ++ Closed ∷ [] → ReadsFile path calls result

-- the calls have grown by reads with this result
pub record GrowsByReads (old : Option (List Call)) (result : Result (List ℕ) FileFault) (new : Option (List Call)) : Type 0 where
  pub calls : List Call
  pub reads : Reads calls result
  pub grows : Grows old calls new

-- the calls have grown by the reading of a file with this result
pub record GrowsByFile (path : List ℕ) (old : Option (List Call)) (result : Result (List ℕ) FileFault) (new : Option (List Call)) : Type 0 where
  pub calls : List Call
  pub reads : ReadsFile path calls result
  pub grows : Grows old calls new
