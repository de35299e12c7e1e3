-- What the program does as a pump: the calls that it makes on its link and its files, the oldest first.
use Rattle.std.specs.Prelude.{◌≡◌, ℕ, Bool, List, Option}
use Rattle.std.specs.Str.{encode_utf8_all}
use Rattle.link_io.specs.Calls as link
use Rattle.link_io.specs.Target.{AtSocket}
use Rattle.file_io.specs.Calls as file
use Rattle.pump.specs.Beginning.{GrowBy}
use Rattle.pump.specs.Node.{IsPump, Untouched}
use Rattle.pump.specs.declared.ending.PumpEnd.{PumpEnd}
use Rattle.program.specs.Status.{status_of_pump}
use Rattle.program.specs.declared.status.Status.{Status}
use Rattle.program.specs.declared.status.Status.TheVariants as status

-- the node of this path was read or written to over the bridge of that one, or no memory was there before; paths are in characters
pub data PumpsTo (read : Bool) (node bridge : List ℕ) (link_old : Option (List link.Call)) (files_old : Option (List file.Call)) (result : Status) (link_new : Option (List link.Call)) (files_new : Option (List file.Call)) : Type 0 where
  pumped : (end : PumpEnd) → GrowBy (IsPump read (AtSocket (encode_utf8_all bridge)) (encode_utf8_all node) end) link_old files_old link_new files_new → result ≡ status_of_pump end → PumpsTo read node bridge link_old files_old result link_new files_new
  no_memory : Untouched link_old files_old link_new files_new → result ≡ status.OutOfMemory → PumpsTo read node bridge link_old files_old result link_new files_new
