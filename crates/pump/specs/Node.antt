-- A pump by the paths of its bridge and its node, which it reads or writes to.
use Rattle.std.specs.Prelude.{ℕ, Bool, true, false, List, Option, Result, codes}
use Rattle.link_io.specs.Calls as link
use Rattle.link_io.specs.Target.{Address, AtSocket}
use Rattle.file_io.specs.Calls as file
use Rattle.file_io.specs.declared.files.Side.TheVariants.{Read, Write}
pub use Rattle.pump.specs.Beginning.{Untouched}
use Rattle.pump.specs.Beginning.{GrowByEnd, Pumps}
use Rattle.pump.specs.Reading.{SendsReads}
use Rattle.pump.specs.Writing.{WritesTakes}
use Rattle.pump.specs.declared.ending.PumpEnd.{PumpEnd}

-- a pump makes at most so many turns, in each of which it takes and hands on one piece
abbrev pub most_turns : ℕ
most_turns = 1000000000000

-- the calls of a pump that ends so: of one that reads its node, or of one that writes to it
abbrev pub IsPump : (read : Bool) → (bridge : Address) → (node : List ℕ) → PumpEnd → List link.Call → List file.Call → Type 0
IsPump true bridge node end = Pumps bridge node Read (codes "r") (SendsReads most_turns end) end
IsPump false bridge node end = Pumps bridge node Write (codes "w") (WritesTakes most_turns end) end

-- the calls have grown by those of a pump between these paths, unless no memory was there
abbrev pub PumpsNode : {E : Type 0} → (read : Bool) → (bridge node : List ℕ) → Option (List link.Call) → Option (List file.Call) → Result PumpEnd E → Option (List link.Call) → Option (List file.Call) → Type 0
PumpsNode read bridge node = GrowByEnd (IsPump read (AtSocket bridge) node)
