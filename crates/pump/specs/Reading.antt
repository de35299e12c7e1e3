-- What a pump that reads a node does once it has begun: the calls that it makes on the link and on the files, the oldest first.
use Rattle.std.specs.Prelude.{◌≡◌, ℕ, ◌<◌, true, false, List, [], ◌∷◌, ◌++◌, length, map, All}
use Rattle.link_io.specs.Calls as link
use Rattle.file_io.specs.Calls as file
use Rattle.pump.specs.declared.ending.PumpEnd.{PumpEnd}
use Rattle.pump.specs.declared.ending.PumpEnd.TheVariants.{Ended, LinkFault, ReadFault, TurnsSpent}

-- a `send` of all these bytes
abbrev pub all_sent : List ℕ → link.Call
all_sent bytes = link.Sent bytes true

-- how it ends after this many reads, with these last calls of each side
pub data EndsReading (turns count : ℕ) (end : PumpEnd) (sends : List link.Call) (reads : List file.Call) : Type 0 where
  found_end : end ≡ Ended → count < turns → sends ≡ [] → reads ≡ file.Gave [] ∷ [] → EndsReading turns count end sends reads
  read_failed : end ≡ ReadFault → count < turns → sends ≡ [] → reads ≡ file.ReadFailed ∷ [] → EndsReading turns count end sends reads
  -- of the last piece a front was sent
  send_failed : (piece front rest : List ℕ) → end ≡ LinkFault → count < turns → 0 < length piece → piece ≡ front ++ rest
      → sends ≡ link.Sent front false ∷ [] → reads ≡ file.Gave piece ∷ [] → EndsReading turns count end sends reads
  turns_spent : end ≡ TurnsSpent → count ≡ turns → sends ≡ [] → reads ≡ [] → EndsReading turns count end sends reads

-- pieces were read and each was sent, before it ended
pub record SendsReads (turns : ℕ) (end : PumpEnd) (on_link : List link.Call) (on_files : List file.Call) : Type 0 where
  pub pieces : List (List ℕ)
  pub sends : List link.Call
  pub reads : List file.Call
  pub each : All (λ piece. 0 < length piece) pieces
  pub ends : EndsReading turns (length pieces) end sends reads
  pub sent : on_link ≡ map all_sent pieces ++ sends
  pub given : on_files ≡ map file.Gave pieces ++ reads
